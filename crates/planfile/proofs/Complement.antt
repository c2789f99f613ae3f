-- Numbers of a plan file in two's complement. Assumes nothing.
use Rattle.std.proofs.Common.{◌≡◌, ℕ, ◌^◌, ◌<◌, true, List, ℤ, pos, negsuc, ◌≤ℤ◌, Some, sym, refl, ap, ◌∙◌, subst, arith, w32, SFits, to_z, of_z}
use lib.Signed.{le_z}
use Rattle.std.proofs.lemmas.Int.{ints, to_z-of_z, of_z-to_z}
use Rattle.std.proofs.lemmas.Bool.{and_parts, and_from}
use Rattle.network.specs.declared.refusal.Refusal.{Refusal}
use Rattle.layout.specs.declared.bounds.Bounds.{Bounds}
use Rattle.layout.specs.Numbers.{signed, within, number_in}
use Rattle.layout.specs.Writing.{bytes_of, Lays}
use Rattle.layout.proofs.Laid.{number_lays, number_laid}
use Rattle.planfile.specs.Documents.{complement, Bounded}

-- bounds of 32 bits
abbrev pub Narrow : Bounds → Type 0
Narrow b = (negsuc 2147483647 ≤ℤ b.least) × (b.greatest ≤ℤ pos 2147483647)

of_complement : (z : ℤ) → of_z w32 z ≡ complement z
of_complement (pos n) = refl
of_complement (negsuc n) = omega arith

complement_signed : (v : ℕ) → v < 256 ^ 4 → complement (signed v) ≡ v
complement_signed v h = sym (of_complement (signed v)) ∙ of_z-to_z w32 v h

pub le_leZ : (a b : ℤ) → a ≤ℤ b → le_z a b ≡ true
le_leZ a b h = grind (arith, ints)

pub leZ_true : (a b : ℤ) → le_z a b ≡ true → a ≤ℤ b
leZ_true a b h = grind (arith, ints)

fits : (z : ℤ) → negsuc 2147483647 ≤ℤ z → z ≤ℤ pos 2147483647 → SFits w32 z
fits (pos n) h k = record { sfits = omega (arith, ints) }
fits (negsuc n) h k = record { sfits = omega (arith, ints) }

complement_below : (z : ℤ) → SFits w32 z → complement z < 256 ^ 4
complement_below (pos n) h = omega (arith, h.sfits)
complement_below (negsuc n) h = omega (arith, h.sfits)

module _ (b : Bounds) (e : Refusal) (p : ℕ) where
  pub complement_lays : Narrow b → (z : ℤ) → Bounded b (Some z) → Lays (number_in b e) p (bytes_of 4 (complement z)) z
  complement_lays n z h =
      let f : SFits w32 z = fits z (omega (arith, ints)) (omega (arith, ints)) in
      let s : signed (complement z) ≡ z = ap (to_z w32) (sym (of_complement z)) ∙ to_z-of_z w32 z f in
      let t : within b z ≡ true = and_from _ _ (le_leZ b.least z h.0) (le_leZ z b.greatest h.1) in
      subst (λ y. Lays (number_in b e) p (bytes_of 4 (complement z)) y) s
      (number_lays b e p (complement z) (complement_below z f) (ap (within b) s ∙ t))

  pub complement_laid : (bytes : List ℕ) (z : ℤ) → Lays (number_in b e) p bytes z → (bytes ≡ bytes_of 4 (complement z)) × Bounded b (Some z)
  complement_laid bytes z t =
      let d = number_laid b e p bytes z t in
      let s = d.4 in
      let c : complement z ≡ d.0 = ap complement s ∙ complement_signed d.0 d.1 in
      let i = and_parts (le_z b.least z) (le_z z b.greatest) (ap (within b) s ∙ d.2) in
      (d.3 ∙ ap (bytes_of 4) (sym c), (leZ_true b.least z i.0, leZ_true z b.greatest i.1))
