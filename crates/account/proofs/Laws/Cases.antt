-- What the definitions give at their edges, so that no wrong text in them goes unseen.
--     zinc         a HETATM that ends too early, as it was sent
--     marks        bytes that can't be shown, one fault, and no columns of an atom
--     refusals     the sentence of each refusal
--     long         a line of 1,024 bytes is shown around a place
-- Assumes nothing.
use Prim.Native.Nat.{ℕ}
use Prim.Native.String.{String}
use mathlib.Core.Path.{◌≡◌, refl}
use mathlib.Core.List.{List, [], ◌∷◌, ◌++◌}
use lib.ListN.{replicate}
use Rattle.kind.specs.Kind.{row_place}
use Rattle.kind.specs.declared.Kind.TheVariants.{Hetatm, Model}
use Rattle.layout.specs.Each.{each}
use Rattle.lexitem.specs.Answer.{refusal}
use Rattle.line.specs.Bytes.{bytes}
use Rattle.line.specs.Columns.{reached_of}
use Rattle.line.specs.declared.fault.Fault.{Fault}
use Rattle.line.specs.declared.fault.FaultKind.{FaultKind}
use Rattle.line.specs.declared.fault.FaultKind.TheVariants.{Short, Wrong}
use Rattle.line.specs.declared.fault.Sort.TheVariants.{Unsigned}
use Rattle.names.specs.Names.{fields, name_of, default_text}
use Rattle.number.specs.Trim.{white, leading, kept, trimmed, end_trimmed}
use Rattle.page.specs.Numerals.{decimal, decimal_before}
use Rattle.account.specs.Account.{numbered, mark, shown_line, under, named, said, fault_row, word, word_at, atom_words, words, head, is_cut, unread, unread_rows, plural, column_of, too_long, high_byte, too_early, too_short, otherwise, why, shown_from, around, refused_rows}

-- rows as one writes them
abbrev lines : List String → List ℕ
lines [] = []
lines (s ∷ t) = bytes s ++ 10 ∷ lines t

abbrev fault : FaultKind → ℕ → ℕ → Fault
fault kind place length = record { kind = kind; place = place; length = length }

pub zinc : unread_rows 30 Hetatm (bytes "HETATM   18 ZN    ZN A 101      1") (fault Short 30 8 ∷ fault Short 54 6 ∷ [])
    ≡ lines
    ("line 30, HETATM 18 ZN ZN A 101: the line ends after column 33"
    ∷ "    HETATM   18 ZN    ZN A 101      1"
    ∷ "                                  ^^^^^^^^ x: not read; 0.0 was put there"
    ∷ "                                                          ^^^^^^ occupancy: not read; 1.0 was put there"
    ∷ [])
unfolding unread_rows head numbered words atom_words word_at word reached_of trimmed end_trimmed leading kept white mark each unread is_cut shown_line
    fault_row under said named name_of default_text fields decimal decimal_before
zinc = refl

pub marks : unread_rows 2 Model (bytes "MODEL  x" ++ 9 ∷ 127 ∷ []) (fault (Wrong Unsigned) 6 4 ∷ [])
    ≡ lines
    ("line 2, MODEL: 1 field was not read"
    ∷ "    MODEL  x??"
    ∷ "          ^^^^ model number: not read; 0 was put there"
    ∷ [])
unfolding unread_rows head numbered words mark each unread is_cut shown_line fault_row under said named name_of default_text fields decimal decimal_before
    row_place
marks = refl

pub refusals : (refused_rows 1 [] (refusal 2 1024 1) ≡ lines ("line 1: not read: it has 1 byte behind column 1024, the last that is read" ∷ []))
    × (refused_rows 2 (bytes "ATOM" ++ 200 ∷ []) (refusal 3 4 1) ≡ lines ("line 2: not read: the byte in column 5 is above 127" ∷ "    ATOM?" ∷ []))
    × (refused_rows 3 (bytes "HEADER x") (refusal 4 11 0) ≡ lines ("line 3: not read: a HEADER line that ends before column 66" ∷ "    HEADER x" ∷ []))
    × (refused_rows 4 (bytes "REMARK") (refusal 5 80 1) ≡ lines ("line 4: not read: a REMARK line with text in column 80 or behind it" ∷ "    REMARK" ∷ []))
    × (refused_rows 5 (bytes "CRYST1   ") (refusal 6 9 46) ≡ lines ("line 5: not read: it ends after column 9, 46 columns too early" ∷ "    CRYST1   " ∷ []))
    × (refused_rows 6 (bytes "x") (refusal 1 0 0) ≡ lines ("line 6: not read: it was refused" ∷ "    x" ∷ []))
unfolding refused_rows numbered why too_long high_byte too_short too_early otherwise plural column_of around shown_from shown_line mark each decimal decimal_before
refusals = (refl, refl, refl, refl, refl, refl)

pub long : refused_rows 7 (replicate 200 65 ++ 200 ∷ replicate 823 66) (refusal 3 200 1)
    ≡ bytes "line 7: not read: the byte in column 201 is above 127\n    " ++ replicate 60 65 ++ bytes "?" ++ replicate 59 66 ++ bytes " ..\n"
unfolding refused_rows numbered why high_byte column_of around shown_from shown_line mark each decimal decimal_before
long = refl
