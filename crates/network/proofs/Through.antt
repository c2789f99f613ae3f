-- An answer through a list between. Assumes nothing.
use Rattle.std.proofs.Common.{◌≡◌, ℕ, ◌-◌, ◌≤◌, List, ◌++◌, length, take, drop, replicate, ℤ, pos, Ok, Err, Result, sym, refl, ap, ◌∙◌, ⊎_elim, arith}
use borrow.Rule.Slice.PartMut.{post_of}
use Rattle.std.proofs.lemmas.List.{get_or_default, get_or_past, get_or_append_left, get_or-append_right, get_or-replicate, length-take, length-append, length-replicate, drop-replicate, get_or-take}
use Rattle.std.proofs.lemmas.Bool.{cases_lt}
use Rattle.network.specs.declared.refusal.Refusal.{Refusal}
use Rattle.network.specs.Answers.{Answered}
use Rattle.network.specs.Kinds.{padded}
use Rattle.network.specs.ListsLemmas.{length_listed, listed_all}

pub answered_through : {U : Type 0} (m n k : ℕ) (f h : List ℤ → List ℤ) (xs asked before after : List ℤ) (r : Result U Refusal) →
    length xs ≡ m → length asked ≡ n → asked ≡ h xs → Answered n k f asked before after r → Answered m k (λ ys. f (h ys)) xs before after r
answered_through m n k f h xs asked before after (Ok u) e l a s = (e, s.1, s.2 ∙ ap f a)
answered_through m n k f h xs asked before after (Err u) e l a s = (s.0, (λ _ q. s.1 l q), s.2)

-- the first n values of a list of 32 after its first places were written
padded_part : (d : ℤ) (n : ℕ) (us room : List ℤ) → room ≡ replicate 32 d → length us ≤ 32 → n ≤ 32 → take n (us ++ drop (length us) room) ≡ padded d n us
padded_part d n us room e hu hn =
    let whole : length (us ++ drop (length us) room) ≡ 32 = rw e (simp (drop-replicate, length-append, length-replicate) (omega arith)) in
    let long : length (take n (us ++ drop (length us) room)) ≡ n = simp length-take (omega arith) in
    listed_all _ _ n long (λ k h. get_or-take n _ k (pos 0) h ∙ ⊎_elim
    (λ l. get_or_append_left us _ (pos 0) k l ∙ get_or_default us k (pos 0) d l)
    (λ p. get_or-append_right us _ (length us) k (pos 0) refl p ∙ rw (e, drop-replicate) (get_or-replicate (32 - length us) (k - length us) d (pos 0) (omega arith)) ∙ sym (get_or_past us k d p))
    (cases_lt k (length us)))

-- `room[0..t]` as it is read after a write to `room[0..m]`
pub room_padded : (d : ℤ) (t m n : ℕ) (us ws room : List ℤ) → room ≡ replicate 32 d → t ≡ n → n ≤ 32 → m ≤ 32 → length us ≡ m → us ≡ ws →
    take (t - 0) (us ++ post_of 0 (m - 0) room) ≡ padded d n ws
room_padded d t m n us ws room e et hn hm eu ew =
    let a : t - 0 ≡ n = omega arith in
    let b : m - 0 ≡ length us = omega arith in
    rw (a, b, ← ew) (padded_part d n us room e (omega arith) hn)

-- h writes the first m places of a list of 32, and f reads the first t
pub passed : {U : Type 0} (d : ℤ) (m t n k given : ℕ) (f h : List ℤ → List ℤ) (xs room us before after : List ℤ) (r : Result U Refusal) →
    room ≡ replicate 32 d → m ≤ 32 → n ≤ 32 → t ≡ n → length us ≡ m → length xs ≡ given → us ≡ h xs →
    Answered n k f (take t (us ++ drop m room)) before after r → Answered given k (λ ys. f (padded d n (h ys))) xs before after r
passed d m t n k given f h xs room us before after r e hm hn et eu ex eh s =
    let part : take t (us ++ drop m room) ≡ padded d n us = rw (et, ← eu) (padded_part d n us room e (omega arith) hn) in
    answered_through given n k f (λ ys. padded d n (h ys)) xs _ before after r ex (ap length part ∙ length_listed _ n) (part ∙ ap (padded d n) eh) s
