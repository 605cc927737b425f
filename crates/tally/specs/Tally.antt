-- "The running tally is lent and updated line by line, and after every prefix of the file it equals the count over those lines. All models count.
-- Lines that the lexer refuses are counted by name all the same; bytes of 128 or more elsewhere don't matter." So a line counts by its name alone,
-- whatever stands before it.
use Rattle.std.specs.Prelude.{ℕ, suc, ◌+◌, ◌-◌, ◌^◌, min, Bool, false, cond, List, [], ◌∷◌, eqb, Option, Some, None}
use Rattle.tally.specs.Names.{number_of}
use Rattle.tally.specs.declared.Tally.{Tally}

-- whether a number at a place counts a line, by the place of the one that does
abbrev pub counts_at : ℕ → Option ℕ → Bool
counts_at n None = false
counts_at n (Some place) = eqb place n

-- how many of some lines count for the number at a place
unfoldable pub count : ℕ → List (List ℕ) → ℕ
count n [] = 0
count n (l ∷ ls) = cond (counts_at n (number_of l)) (suc (count n ls)) (count n ls)

-- a tally of what a function gives for each place
abbrev pub tally_by : (ℕ → ℕ) → Tally
tally_by f = record {
  remark = f 0;
  het = f 2;
  helix = f 3;
  sheet = f 4;
  turn = f 5;
  site = f 6;
  xform = f 7;
  coord = f 8;
  ter = f 9;
  connect = f 10;
  seq = f 11;
}

-- the count over some lines
abbrev pub count_over : List (List ℕ) → Tally
count_over ls = tally_by (λ n. count n ls)

-- ---- as it runs
-- the count at a place with one more line, which counts for a number; it stops at the last that there is
unfoldable pub more : ℕ → Option ℕ → ℕ → ℕ
more own number n = cond (counts_at own number) (min (n + 1) (2 ^ 64 - 1)) n

abbrev pub with_number : Option ℕ → Tally → Tally
with_number number t = record {
  remark = more 0 number t.remark;
  het = more 2 number t.het;
  helix = more 3 number t.helix;
  sheet = more 4 number t.sheet;
  turn = more 5 number t.turn;
  site = more 6 number t.site;
  xform = more 7 number t.xform;
  coord = more 8 number t.coord;
  ter = more 9 number t.ter;
  connect = more 10 number t.connect;
  seq = more 11 number t.seq;
}

-- the tally with one line more
unfoldable pub counted : Tally → List ℕ → Tally
counted t l = with_number (number_of l) t

-- and with line after line
unfoldable pub tallied : Tally → List (List ℕ) → Tally
tallied t [] = t
tallied t (l ∷ ls) = tallied (counted t l) ls

-- no line
abbrev pub nothing : Tally
nothing = tally_by (λ _. 0)
