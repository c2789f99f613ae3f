-- The first records of a table of 32. Assumes nothing.
use Rattle.std.proofs.Common.{◌≡◌, ℕ, ◌-◌, ◌≤◌, min, List, ◌++◌, length, take, drop, replicate, sym, ap, ◌∙◌, ⊎_elim, subst, arith, length-append, length-drop}
use borrow.Rule.Slice.PartMut.{mid_of, post_of}
use Rattle.std.proofs.Math.Seq.{take-append_seam}
use Rattle.std.proofs.lemmas.List.{take_all, drop-replicate, length-replicate}
use Rattle.std.proofs.lemmas.Slice.{drop-append-drop}
use Rattle.std.proofs.lemmas.Bool.{cases_lt}
use Rattle.model.specs.declared.bench.Bench.{Bench}
use Rattle.model.specs.Calls.{no_bench}
use Rattle.benches.specs.declared.table.Benches.{Benches}
use Rattle.benches.specs.Rooms.{Room, count_back}

-- `rows[0..n]` as it is read
pub part_read : {A : Type 0} (n : ℕ) (rows : List A) → mid_of 0 (n - 0) rows ≡ take n rows
part_read n rows = let e : n - 0 ≡ n = omega arith in ap (λ (k : ℕ). take k rows) e

-- the records after a write to it
pub part_written : {A : Type 0} (n k : ℕ) (xs rows : List A) → length xs ≡ n → take n (xs ++ post_of 0 k rows) ≡ xs
part_written n k xs rows e = ap (λ (m : ℕ). take m (xs ++ post_of 0 k rows)) (sym e) ∙ take-append_seam xs (post_of 0 k rows)

-- at most the first n
pub take_min : {A : Type 0} (n : ℕ) (xs : List A) → take (min (length xs) n) xs ≡ take n xs
take_min n xs = ⊎_elim
    (λ l. let e : min (length xs) n ≡ length xs = omega arith in rw e (take_all (length xs) xs (omega arith) ∙ sym (take_all n xs (omega arith))))
    (λ l. let e : min (length xs) n ≡ n = omega arith in ap (λ (k : ℕ). take k xs) e)
    (cases_lt (length xs) n)

-- ---- the other rows stay zeros

pub held : (b : Benches) → Room b.count b.rows
held b = record { few = b.few; full = b.full; spare = b.spare }

pub room_of_zeros : (n : ℕ) (b : Bench) → n ≤ 32 → b ≡ no_bench → Room n (replicate 32 b)
room_of_zeros n b few e = record {
  few = few;
  full = length-replicate 32 b;
  spare = ap (λ (z : Bench). drop n (replicate 32 z)) e ∙ drop-replicate n 32 no_bench;
}

-- after a write to the first n
pub room_written : (n : ℕ) (rows xs : List Bench) → Room n rows → length xs ≡ length (take n rows) → Room n (xs ++ post_of 0 n rows)
room_written n rows xs h e =
    let l : length xs ≡ n = e ∙ count_back n rows h in
    let past = length-drop n rows in
    record {
      few = h.few;
      full = length-append xs (drop n rows) ∙ omega (arith, l, past, h.few, h.full);
      spare = drop-append-drop n rows xs n (omega arith) l ∙ h.spare;
    }

pub room_after : (n : ℕ) (rows xs : List Bench) → Room n rows → length xs ≡ length (mid_of 0 (n - 0) rows) → Room n (xs ++ post_of 0 (n - 0) rows)
room_after n rows xs h l =
    let e : n ≡ n - 0 = omega arith in
    subst (λ (k : ℕ). Room n (xs ++ post_of 0 k rows)) e (room_written n rows xs h (l ∙ ap length (part_read n rows)))
