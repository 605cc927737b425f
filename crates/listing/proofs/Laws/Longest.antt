-- The longest listing, so that a host knows what to lend.
--     listing_some        no listing is empty
--     listing_longest     the listing of an accepted line has at most 4,096 bytes
-- A row is at most as long as its columns allow; SEQADV, whose comment goes to the end of a line of up to 1,024 bytes, has the most room.
-- Assumes nothing.
use Prim.Native.Nat.{ℕ, ◌+◌, ◌*◌, ◌≤◌, ◌<◌}
use mathlib.Core.Path.{◌≡◌}
use mathlib.Core.List.{List, [], ◌∷◌}
use Rattle.std.specs.Prelude.{Ok}
use native.Mathlib.Omega.{arith}
use lib.ListN.{length, length-append}
use lib.Dec.{leb, leb→le, lit≤}
use Rattle.line.specs.Bytes.{bytes}
use Rattle.kind.specs.declared.Kind.{Kind}
use Rattle.lexer.specs.Lexed.{lexed}
use Rattle.lexer.specs.Refusals.{Input, kind, given}
use Rattle.line.specs.Faults.{number_of}
use Rattle.lexitem.specs.Fault.{told, faults_in}
use Rattle.line.specs.Given.{Given}
use Rattle.line.specs.declared.fault.Fault.{Fault}
use Rattle.line.specs.declared.fault.FaultKind.{FaultKind}
use Rattle.line.specs.declared.fault.FaultKind.TheVariants.{Short, Wrong, NoDigit, NoSign, Unknown}
use Rattle.lexitem.specs.declared.item.LexItem.{LexItem}
use Rattle.page.specs.Numerals.{decimal_before, decimal}
use Rattle.lexitem.specs.Describe.{describe, fields_by, item_of, fields_of, kind_of_item}
use Rattle.lexitem.specs.Shown.{shown, sorted}
use Rattle.lexitem.proofs.Laws.Kinds.{by_table, fields-shown}
use Rattle.lexitem.proofs.Laws.Few.{faults_fifteen}
use Rattle.kind.proofs.Laws.Name.{name-most}
use Rattle.layout.specs.Each.{each}
use Rattle.listing.specs.Listed.{listing_by}
use Rattle.layout.specs.Fault.{fault_bytes, faults_bytes}
use Rattle.layout.specs.Label.{head_rows, number_row, three_row}
use Rattle.listing.specs.Listing.{listing_of, longest}
use Rattle.layout.specs.Row.{rows_bytes}
use Rattle.lexer.proofs.Laws.Accepted.{accepted-item, accepted-line, accepted-faults}
use Rattle.page.proofs.Laws.Decimal.{decimal-most}
use Rattle.listing.proofs.Laws.Room.{rows-room}
use Rattle.listing.proofs.Laws.Table.{table_room, shown-room, sorted-room, rows-held}

-- ---- the rows of a kind
-- no kind's table has more room than SEQADV's
kind-room : (k : Kind) (g : Given) → length g.line ≤ 1024 → length (rows_bytes g.line (fields_of (item_of k g))) ≤ 3091
unfolding decimal decimal_before
kind-room k g h =
    let table = fields_by k g in
    let most = leb→le (table_room table) 3091 (by_table (λ t. leb (table_room t) 3091) tt g.options.mode k ((describe k).part g.line)) in
    let all = shown-room g table h in
    let rows = sorted (shown g table) in
    let few = rows-room g.line rows in
    rw (rows-held g.line (fields_of (item_of k g)), ← (fields-shown g k).0, ← rows-held g.line rows) (omega (arith, sorted-room (shown g table)))

-- ---- the other rows
kind-digit : (k : FaultKind) → length (decimal (number_of k)) ≤ 1
unfolding decimal decimal_before
kind-digit Short = lit≤ tt
kind-digit (Wrong s) = lit≤ tt
kind-digit NoDigit = lit≤ tt
kind-digit NoSign = lit≤ tt
kind-digit Unknown = lit≤ tt

fault-most : (f : Fault) → length (fault_bytes f) ≤ 50
unfolding three_row
fault-most f =
    let k = kind-digit f.kind in
    let p = decimal-most f.place in
    let n = decimal-most f.length in
    simp length-append (omega arith)

faults-most : (fs : List Fault) → length (faults_bytes fs) ≤ 50 * length fs
unfolding each
faults-most [] = omega arith
faults-most (f ∷ t) = let h = fault-most f in let ih = faults-most t in simp length-append (omega arith)

number-most : (label : List ℕ) (n : ℕ) → length (number_row label n) ≤ length label + 21
unfolding number_row
number-most label n = let h = decimal-most n in simp length-append (omega arith)

-- ---- all of it
pub listing_some : (n : ℕ) (l : List ℕ) (x : LexItem) (fs : List Fault) → 0 < length (listing_of n l x fs)
unfolding listing_of head_rows
listing_some n l x fs = simp length-append (omega arith)

listing_most : (n : ℕ) (l : List ℕ) (x : LexItem) (fs : List Fault) (room : ℕ) → length (rows_bytes l (fields_of x)) ≤ room
    → length fs ≤ 15 → length (listing_of n l x fs) ≤ room + 818
unfolding listing_of head_rows
listing_most n l x fs room h few =
    let name = name-most (kind_of_item x) in
    let line = number-most (bytes "line=") n in
    let total = number-most (bytes "faults=") (length fs) in
    let each = faults-most fs in
    simp length-append (omega arith)

pub listing_longest : (i : Input) (x : LexItem) → (lexed i).outcome ≡ Ok x → length (listing_by i x) ≤ longest
listing_longest i x e =
    let room = kind-room (kind i) (given i) (accepted-line i x e) in
    let all = listing_most i.number i.line (item_of (kind i) (given i)) (faults_in (told (lexed i).faults)) 3091 (omega arith) (rw (accepted-faults i x e) (faults_fifteen (kind i) (given i))) in
    rw (accepted-item i x e) (omega arith)
