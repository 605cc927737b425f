-- "The running tally is .. updated line by line": what is known of a file after some of its lines, as they come, in a small space however many there
-- are. Of MASTER lines no more is kept than the answer needs: what the first one says, or where it starts and how long it is if it can't be read,
-- or the same of the second.
use Rattle.std.specs.Prelude.{ℕ, ◌+◌, ◌-◌, ◌^◌, min, cond, List, [], ◌∷◌, ltb, length, Option, Some, None, Ok}
use Rattle.carry.specs.Pieces.{Stretch, texts, taken_by}
use Rattle.tally.specs.Names.{is_master}
use Rattle.tally.specs.Tally as tally
use Rattle.tally.specs.declared.Tally.{Tally}
use Rattle.audit.specs.Audit.{Placed, placed, masters, Checked, refused}
use Rattle.audit.specs.Said.{said_of}
use Rattle.master.specs.declared.record.Master.{Master}
use Rattle.audit.specs.declared.watch.Masters.{Masters}
use Rattle.audit.specs.declared.watch.Masters.TheVariants.{Missing, Unread, Numbers, Several}
use Rattle.audit.specs.declared.watch.Watch.{Watch}

-- ---- the MASTER lines so far
-- one that stands at a place and has so many bytes, by what it says
abbrev pub read_as : Option Master → ℕ → ℕ → Masters
read_as None at size = Unread at size
read_as (Some m) at size = Numbers m

-- the first one; of a line over 1,024 bytes only a front may be at hand, and the lexer refuses it
abbrev pub first_master : List ℕ → ℕ → ℕ → Masters
first_master text size at = cond (ltb 1024 size) (Unread at size) (read_as (said_of text) at size)

-- one more
abbrev pub with_master : Masters → List ℕ → ℕ → ℕ → Masters
with_master Missing text size at = first_master text size at
with_master (Unread start length) text size at = Several at size
with_master (Numbers m) text size at = Several at size
with_master (Several start length) text size at = Several start length

abbrev pub with_line : Masters → List ℕ → ℕ → ℕ → Masters
with_line m text size at = cond (is_master text) (with_master m text size at) m

-- ---- line after line
-- the place behind so many bytes; it stops at the last that there is
abbrev pub further : ℕ → ℕ → ℕ
further at taken = min (at + taken) (2 ^ 64 - 1)

-- with a line more, of which a front is at hand, that has so many bytes and takes up so many
unfoldable pub seen : Watch → List ℕ → ℕ → ℕ → Watch
seen w text size taken =
    record { at = further w.at taken; counted = tally.counted w.counted text; masters = with_line w.masters text size w.at }

unfoldable pub watched : Watch → List Stretch → Watch
watched w [] = w
watched w (s ∷ ss) = watched (seen w s.text (length s.text) s.taken) ss

-- before the first line
abbrev pub fresh : Watch
fresh = record { at = 0; counted = tally.nothing; masters = Missing }

-- ---- in words of the lines
-- by all MASTER lines that there are
abbrev pub masters_known : List Placed → Masters
masters_known [] = Missing
masters_known (p ∷ []) = read_as (said_of p.text) p.start (length p.text)
masters_known (p ∷ q ∷ ps) = Several q.start (length q.text)

-- what is known after these lines
abbrev pub known : List Stretch → Watch
known ss = record { at = taken_by ss; counted = tally.count_over (texts ss); masters = masters_known (masters (placed 0 ss)) }

-- ---- what is answered then
abbrev pub judged_as : Tally → Masters → Checked
judged_as t Missing = refused 10 0 0
judged_as t (Unread start length) = refused 12 start length
judged_as t (Numbers m) = Ok (record { counted = t; said = m })
judged_as t (Several start length) = refused 11 start length

abbrev pub judged_by : Watch → Checked
judged_by w = judged_as w.counted w.masters
