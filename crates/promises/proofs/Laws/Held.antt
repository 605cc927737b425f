-- The rows and positions of accepted lines are held, so that the bound of 2026-12 speaks of them.
--     accepted-held                         of every accepted record, with the defaults of faulted fields
--     scale-near, origx-near, mtrix-near    so what a row of one line makes of the position of another is near the exact sum
-- Assumes nothing.
use mathlib.Core.Path.{◌≡◌}
use Rattle.std.specs.Prelude.{Ok}
use Rattle.line.specs.Given.{Given}
use Rattle.kind.specs.declared.Kind.{Kind}
use Rattle.kind.specs.declared.Kind.TheVariants.{Empty, Header, Remark, Atom, Hetatm, Anisou, Cryst1, Scale, Origx, Mtrix, Model, Master, Dbref, Dbref1, Dbref2, Seqres, Seqadv, Modres, Ssbond, Endmdl, Ter, End}
use Rattle.lexitem.specs.Describe.{item_of}
use Rattle.lexitem.specs.declared.item.LexItem.{LexItem}
use Rattle.lexitem.specs.declared.item.LexItem.TheVariants as item
use Rattle.atom.specs.declared.record.Atom.{Atom as AtomRecord}
use Rattle.transformation.specs.declared.record.NumberedRow.{NumberedRow}
use Rattle.transformation.specs.declared.record.MtriX.{MtriX}
use Rattle.matrix.specs.Apply.{coordinate}
use Rattle.matrix.specs.Bound.{NearExact}
use Rattle.matrix.proofs.Laws.Bound.{coordinate-near}
use Rattle.lexer.specs.Lexed.{lexed}
use Rattle.lexer.specs.Refusals.{Input, kind, given}
use Rattle.lexer.proofs.Laws.Accepted.{accepted-item}
use Rattle.matrix.proofs.Laws.Held.{position_held, row-held}
use Rattle.promises.specs.Held.{HeldIn}

kind-held : (k : Kind) (g : Given) → HeldIn (item_of k g)
kind-held Empty g = tt
kind-held Header g = tt
kind-held Remark g = tt
kind-held Atom g = position_held g.options.exponents g.line
kind-held Hetatm g = position_held g.options.exponents g.line
kind-held Anisou g = tt
kind-held Cryst1 g = tt
kind-held (Scale row) g = row-held g.options.exponents g.line
kind-held (Origx row) g = row-held g.options.exponents g.line
kind-held (Mtrix row) g = row-held g.options.exponents g.line
kind-held Model g = tt
kind-held Master g = tt
kind-held Dbref g = tt
kind-held Dbref1 g = tt
kind-held Dbref2 g = tt
kind-held Seqres g = tt
kind-held Seqadv g = tt
kind-held Modres g = tt
kind-held Ssbond g = tt
kind-held Endmdl g = tt
kind-held Ter g = tt
kind-held End g = tt

pub accepted-held : (i : Input) (x : LexItem) → (lexed i).outcome ≡ Ok x → HeldIn x
accepted-held i x accepts = rw (accepted-item i x accepts) (kind-held (kind i) (given i))

-- ---- the bound, for lines
module _ (i j : Input) (a : AtomRecord) (p : (lexed i).outcome ≡ Ok (item.Atom a)) where
  pub scale-near : (r : NumberedRow) (q : (lexed j).outcome ≡ Ok (item.Scale r))
      → NearExact (coordinate r.values a.position) (accepted-held j (item.Scale r) q) (accepted-held i (item.Atom a) p)
  scale-near r q = coordinate-near r.values a.position (accepted-held j (item.Scale r) q) (accepted-held i (item.Atom a) p)

  pub origx-near : (r : NumberedRow) (q : (lexed j).outcome ≡ Ok (item.OrigX r))
      → NearExact (coordinate r.values a.position) (accepted-held j (item.OrigX r) q) (accepted-held i (item.Atom a) p)
  origx-near r q = coordinate-near r.values a.position (accepted-held j (item.OrigX r) q) (accepted-held i (item.Atom a) p)

  pub mtrix-near : (r : MtriX) (q : (lexed j).outcome ≡ Ok (item.MtriX r))
      → NearExact (coordinate r.values a.position) (accepted-held j (item.MtriX r) q) (accepted-held i (item.Atom a) p)
  mtrix-near r q = coordinate-near r.values a.position (accepted-held j (item.MtriX r) q) (accepted-held i (item.Atom a) p)
