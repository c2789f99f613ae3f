-- Bytes of the head, one after another. Assumes nothing.
use Rattle.std.proofs.Common.{◌≡◌, ℕ, ◌+◌, ◌<◌, ◌≤◌, true, false, cond, List, length, get_or, Err, Result, sym, ap, ◌∙◌, add-zero, zero-add, arith}
use Rattle.network.specs.declared.refusal.Refusal.{Refusal}
use Rattle.network.specs.declared.refusal.Refusal.TheVariants.{Ends, Edition, UnknownScale, Size as WrongSize}
use Rattle.layout.specs.declared.faults.ByteFault.{ByteFault}
use Rattle.layout.specs.Faults.{fault}
use Rattle.layout.specs.Layouts.{reached, refused, Layout, gives, fails, reads, then, value, checked}
use Rattle.layout.proofs.Outcomes.{goes_on, stops, reads_gives, reads_fails, reads_whole, reads_short}
use Rattle.layout.specs.Reading.{outcome}
use Rattle.planfile.specs.declared.heads.Head.{Head}
use Rattle.planfile.specs.declared.heads.SoundHead.{SoundHead}
use Rattle.planfile.specs.Sound.{plain}
use Rattle.planfile.specs.Heads.{one_to, kind, head_of}

module _ {A : Type 0} (file : List ℕ) (p n : ℕ) (e : Refusal) (more : ℕ → Layout ByteFault A) where
  byte : p < length file → value file p 1 ≡ get_or file p 0
  unfolding value
  byte l = zero-add _ ∙ ap (λ x. get_or file x 0) (add-zero p)

  check : ℕ → ℕ → Layout ByteFault ℕ
  check q v = cond (one_to n v) (gives v) (fails (fault e q))

  -- the byte at p passes its check
  pub pass : p < length file → one_to n (get_or file p 0) ≡ true → reads (then (checked 1 e (one_to n)) more) file p ≡ reads (more (get_or file p 0)) file (p + 1)
  unfolding checked check
  pass l h =
      let v = byte l in
      let t : one_to n (value file p 1) ≡ true = rw v h in
      goes_on (checked 1 e (one_to n)) more file p (get_or file p 0) (p + 1)
      (sym (reads_whole 1 (fault Ends) check file p (omega arith) ∙ ap (λ b. reads (cond b (gives (value file p 1)) (fails (fault e p))) file (p + 1)) t ∙ reads_gives _ _ _ ∙ ap (λ x. reached x (p + 1)) v))

  -- it does not
  pub bad : p < length file → one_to n (get_or file p 0) ≡ false → reads (then (checked 1 e (one_to n)) more) file p ≡ refused (fault e p)
  unfolding checked check
  bad l h =
      let v = byte l in
      let t : one_to n (value file p 1) ≡ false = rw v h in
      stops (checked 1 e (one_to n)) more file p (fault e p)
      (sym (reads_whole 1 (fault Ends) check file p (omega arith) ∙ ap (λ b. reads (cond b (gives (value file p 1)) (fails (fault e p))) file (p + 1)) t ∙ reads_fails _ _ _))

  -- the file ends before it
  pub over : length file ≤ p → reads (then (checked 1 e (one_to n)) more) file p ≡ refused (fault Ends p)
  unfolding checked check
  over l = stops (checked 1 e (one_to n)) more file p (fault Ends p) (sym (reads_short 1 (fault Ends) check file p (omega arith)))

-- ---- the layout of the head after each of its bytes

abbrev after_4 : ℕ → ℕ → ℕ → Layout ByteFault Head
after_4 s n l = then (checked 1 WrongSize (one_to 32)) (λ r. gives (record { scale = kind s; stations = n; left = l; right = r }))

abbrev after_3 : ℕ → ℕ → Layout ByteFault Head
after_3 s n = then (checked 1 WrongSize (one_to 32)) (λ l. after_4 s n l)

abbrev after_2 : ℕ → Layout ByteFault Head
after_2 s = then (checked 1 WrongSize (one_to 32)) (λ n. after_3 s n)

abbrev after_1 : Layout ByteFault Head
after_1 = then (checked 1 UnknownScale (one_to 2)) (λ s. after_2 s)

module _ (file : List ℕ) where
  pub stage_1 : 1 ≤ length file → one_to 1 (get_or file 0 0) ≡ true → reads head_of file 0 ≡ reads after_1 file 1
  unfolding head_of
  stage_1 l h = pass file 0 1 Edition (λ _. after_1) (omega arith) h

  pub stage_2 : 2 ≤ length file → one_to 1 (get_or file 0 0) ≡ true → one_to 2 (get_or file 1 0) ≡ true → reads head_of file 0 ≡ reads (after_2 (get_or file 1 0)) file 2
  stage_2 l g h = stage_1 (omega arith) g ∙ pass file 1 2 UnknownScale (λ s. after_2 s) (omega arith) h

  pub stage_3 : 3 ≤ length file → one_to 1 (get_or file 0 0) ≡ true → one_to 2 (get_or file 1 0) ≡ true → one_to 32 (get_or file 2 0) ≡ true →
      reads head_of file 0 ≡ reads (after_3 (get_or file 1 0) (get_or file 2 0)) file 3
  stage_3 l f g h = stage_2 (omega arith) f g ∙ pass file 2 32 WrongSize (λ n. after_3 (get_or file 1 0) n) (omega arith) h

  pub stage_4 : 4 ≤ length file → one_to 1 (get_or file 0 0) ≡ true → one_to 2 (get_or file 1 0) ≡ true → one_to 32 (get_or file 2 0) ≡ true → one_to 32 (get_or file 3 0) ≡ true →
      reads head_of file 0 ≡ reads (after_4 (get_or file 1 0) (get_or file 2 0) (get_or file 3 0)) file 4
  stage_4 l e f g h = stage_3 (omega arith) e f g ∙ pass file 3 32 WrongSize (λ k. after_4 (get_or file 1 0) (get_or file 2 0) k) (omega arith) h

  pub stage_5 : 5 ≤ length file → one_to 1 (get_or file 0 0) ≡ true → one_to 2 (get_or file 1 0) ≡ true → one_to 32 (get_or file 2 0) ≡ true → one_to 32 (get_or file 3 0) ≡ true →
      one_to 32 (get_or file 4 0) ≡ true →
      reads head_of file 0 ≡ reached (record { scale = kind (get_or file 1 0); stations = get_or file 2 0; left = get_or file 3 0; right = get_or file 4 0 }) 5
  stage_5 l d e f g h =
      stage_4 (omega arith) d e f g
      ∙ pass file 4 32 WrongSize (λ r. gives (record { scale = kind (get_or file 1 0); stations = get_or file 2 0; left = get_or file 3 0; right = r })) (omega arith) h
      ∙ reads_gives _ _ _

-- ---- what is answered

pub told_fault : (file : List ℕ) (r : Result SoundHead ByteFault) (f : ByteFault) → r ≡ Err f → reads head_of file 0 ≡ refused f → outcome plain r 5 ≡ reads head_of file 0
told_fault file r f e h = ap (λ z. outcome plain z 5) e ∙ sym h
