-- The head, and then the body. Assumes nothing.
use Rattle.std.proofs.Common.{◌≡◌, ℕ, List, length, Ok, Err, ap, ◌∙◌}
use Rattle.layout.specs.Faults.{FileFault}
use Rattle.layout.specs.Layouts.{reads}
use Rattle.layout.specs.Reading.{outcome}
use Rattle.layout.proofs.Outcomes.{goes_on, stops}
use Rattle.planfile.specs.declared.heads.SoundHead.{SoundHead}
use Rattle.planfile.specs.declared.heads.ScaleKind.{ScaleKind}
use Rattle.planfile.specs.Heads.{head_part}
use Rattle.planfile.specs.Files.{coefficients, window_values, scale_of, body_of, body_by, file_of, closed, file_read}
use Rattle.planfile.specs.Sound.{plain}

module _ (file : List ℕ) where
  pub head_fault : (f : FileFault) → outcome plain (Err f) 5 ≡ reads head_part file 0 → file_read file ≡ Err f
  unfolding file_of
  head_fault f e = ap (closed (length file)) (stops head_part body_by file 0 f e)

  -- over the scale k of the head
  pub head_then : (h : SoundHead) (k : ScaleKind) → outcome {F = FileFault} plain (Ok h) 5 ≡ reads head_part file 0 → h.scale ≡ k →
      file_read file ≡ closed (length file) (reads (body_of (coefficients (scale_of k)) (window_values (scale_of k)) (plain h)) file 5)
  unfolding file_of
  head_then h k e s =
      ap (closed (length file)) (goes_on head_part body_by file 0 (plain h) 5 e
      ∙ ap (λ (z : ScaleKind). reads (body_of (coefficients (scale_of z)) (window_values (scale_of z)) (plain h)) file 5) s)
