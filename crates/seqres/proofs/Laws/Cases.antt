-- What the definitions give for lines, so that code and definition can't go wrong together.
--     all-thirteen     thirteen triples are read
--     blank_second     three blanks in the second's own columns end them
--     second_at        the second stands at 23
-- Assumes nothing.
use mathlib.Core.Path.{◌≡◌, refl}
use Rattle.std.specs.Prelude.{Some}
use Rattle.line.specs.Bytes.{bytes}
use Rattle.seqres.specs.Seqres.{blank_triple, triples_from, triples_of, triple_of}

pub all-thirteen : triples_of (bytes "SEQRES   1 A   21  GLY ILE VAL GLU GLN CYS CYS THR SER ILE CYS SER LEU") ≡ 13
unfolding blank_triple triples_from
all-thirteen = refl

pub blank_second : triples_of (bytes "SEQRES   1 A   21  GLY     VAL GLU GLN CYS CYS THR SER ILE CYS SER LEU") ≡ 1
unfolding blank_triple triples_from
blank_second = refl

pub second_at : triple_of 13 1 ≡ Some (record { place = 23; length = 3 })
unfolding triple_of
second_at = refl
