-- What the definitions give for lines, so that code and definition can't go wrong together: a database's residue is named where any of the columns
-- from 39 to 47 isn't blank.
--     by_column_42, by_column_47     the column behind the name alone, and the last alone
--     by_none                        all blank, though columns beside them aren't
-- Assumes nothing.
use mathlib.Core.Path.{◌≡◌, refl}
use mathlib.Core.Bool.{true, false}
use Rattle.line.specs.Bytes.{bytes}
use Rattle.line.specs.Columns.{part_of}
use Rattle.seqadv.specs.Seqadv.{blanks, has_target}

pub by_column_42 : has_target (bytes "SEQADV 3ABC MET A   -1  UNP  P10725       x      EXPRESSION TAG") ≡ true
unfolding blanks has_target part_of
by_column_42 = refl

pub by_column_47 : has_target (bytes "SEQADV 3ABC MET A   -1  UNP  P10725            7 EXPRESSION TAG") ≡ true
unfolding blanks has_target part_of
by_column_47 = refl

pub by_none : has_target (bytes "SEQADV 3ABC MET A   -1  UNP  P10725   x         xEXPRESSION TAG") ≡ false
unfolding blanks has_target part_of
by_none = refl
