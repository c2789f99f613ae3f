-- Networks over whole lists of calls. Assumes nothing.
use Rattle.std.proofs.Common.{List, [], ◌∷◌, ◌++◌, refl, subst}
use Rattle.journal.specs.declared.calls.Call.{Call}
use Rattle.journal.specs.declared.replies.Reply.{Reply}
use Rattle.journal.specs.Networks.{Leaves, LeavesAfter}

pub leaves_more : {L R : Type 0} (l : L) (r : R) (cs : List (Call L R)) (ys : List (Reply L R)) (m : L) (n : R) (c : Call L R) (y : Reply L R) (l' : L) (r' : R) →
    LeavesAfter l r cs ys m n → Leaves m n c y l' r' → LeavesAfter l r (cs ++ (c ∷ [])) (ys ++ (y ∷ [])) l' r'
leaves_more {L} {R} l r [] [] m n c y l' r' h k =
    (l', r', subst (λ (u : L). Leaves u r c y l' r') h.0 (subst (λ (v : R). Leaves m v c y l' r') h.1 k), (refl, refl))
leaves_more l r [] (z ∷ ys) m n c y l' r' h k = absurd h
leaves_more l r (d ∷ cs) [] m n c y l' r' h k = absurd h
leaves_more l r (d ∷ cs) (z ∷ ys) m n c y l' r' h k = (h.0, h.1, h.2, leaves_more h.0 h.1 cs ys m n c y l' r' h.3 k)
