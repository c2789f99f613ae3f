-- Checks that run one list after another. Assumes nothing.
use Rattle.std.proofs.Common.{List, [], ◌∷◌, ◌++◌, inl, inr, ⊎_elim}
use Rattle.network.specs.Checks.{Answer, accepted, refused, Check, Checked}

-- the first list has no fault
pub more_checks : {R : Type 0} (cs ds : List (Check R)) (a : Answer R) → Checked cs accepted → Checked ds a → Checked (cs ++ ds) a
more_checks [] ds a h k = k
more_checks (c ∷ cs) ds accepted h k = (h.0, more_checks cs ds accepted h.1 k)
more_checks (c ∷ cs) ds (refused r) h k = inr (h.0, more_checks cs ds (refused r) h.1 k)

-- the first list has one
pub early_fault : {R : Type 0} (cs ds : List (Check R)) (r : R) → Checked cs (refused r) → Checked (cs ++ ds) (refused r)
early_fault [] ds r h = absurd h
early_fault (c ∷ cs) ds r h = ⊎_elim (λ f. inl f) (λ f. inr (f.0, early_fault cs ds r f.1)) h

-- neither has one
pub checked_both : {R : Type 0} (cs ds : List (Check R)) → Checked (cs ++ ds) accepted → Checked cs accepted × Checked ds accepted
checked_both [] ds h = (tt, h)
checked_both (c ∷ cs) ds h = let rest = checked_both cs ds h.1 in ((h.0, rest.0), rest.1)
