-- Starts at the front of 32 places. Assumes nothing.
use Rattle.std.proofs.Common.{◌≡◌, ℕ, ◌-◌, ◌≤◌, List, ◌++◌, length, take, drop, replicate, ℤ, pos, ◌∙◌, arith}
use Rattle.std.proofs.lemmas.List.{length-append, length-replicate, drop-replicate, take_at}
use Rattle.std.proofs.lemmas.Slice.{drop-append-drop}

abbrev pub blank : List ℤ
blank = replicate 32 (pos 0)

-- the first n of 32 places hold the starts xs, and the others 0
module _ (n : ℕ) (xs : List ℤ) (few : n ≤ 32) (all : length xs ≡ n) where
  pub front_length : length (xs ++ drop n blank) ≡ 32
  front_length = simp (length-append, drop-replicate n 32 (pos 0), length-replicate) (omega arith)

  pub front_rest : drop n (xs ++ drop n blank) ≡ replicate (32 - n) (pos 0)
  front_rest = drop-append-drop n blank xs n (omega arith) all ∙ drop-replicate n 32 (pos 0)

  pub front_taken : take n (xs ++ drop n blank) ≡ xs
  front_taken = take_at xs (drop n blank) n all
