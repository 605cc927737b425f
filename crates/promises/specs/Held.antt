-- 2026-12: "For rows and positions read by the lexer without faults". What a record has of them is held in the sense of the bound, with faults too,
-- since the default of each is 0.0.
use Rattle.matrix.specs.Bound.{HeldRow, HeldPosition}
use Rattle.lexitem.specs.declared.item.LexItem.{LexItem}
use Rattle.lexitem.specs.declared.item.LexItem.TheVariants as item

-- the position of an atom and the row of a transformation; the other kinds have neither
abbrev pub HeldIn : LexItem → Type 0
HeldIn item.Empty = Unit {0}
HeldIn (item.Header v) = Unit {0}
HeldIn (item.Remark v) = Unit {0}
HeldIn (item.Atom v) = HeldPosition v.position
HeldIn (item.Anisou v) = Unit {0}
HeldIn (item.Crystal v) = Unit {0}
HeldIn (item.Scale v) = HeldRow v.values
HeldIn (item.OrigX v) = HeldRow v.values
HeldIn (item.MtriX v) = HeldRow v.values
HeldIn (item.Model v) = Unit {0}
HeldIn (item.Master v) = Unit {0}
HeldIn (item.Seqres v) = Unit {0}
HeldIn (item.Dbref v) = Unit {0}
HeldIn (item.Dbref1 v) = Unit {0}
HeldIn (item.Dbref2 v) = Unit {0}
HeldIn (item.Seqadv v) = Unit {0}
HeldIn (item.Modres v) = Unit {0}
HeldIn (item.SSBond v) = Unit {0}
HeldIn item.EndModel = Unit {0}
HeldIn item.Ter = Unit {0}
HeldIn item.End = Unit {0}
