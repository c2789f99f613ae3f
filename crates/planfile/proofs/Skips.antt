-- Fields that are passed over. Assumes nothing.
use Rattle.std.proofs.Common.{◌≡◌, ℕ, zero, suc, ◌+◌, ◌-◌, ◌*◌, ◌/◌, ◌^◌, ◌<◌, ◌≤◌, ltb, List, length, sym, ap, ◌∙◌, ⊎_elim, arith}
use lib.Count.{ones}
use Rattle.std.proofs.lemmas.Bool.{cases_lt}
use Rattle.network.specs.declared.refusal.Refusal.TheVariants.{Ends, Bit}
use Rattle.layout.specs.Faults.{fault}
use Rattle.layout.specs.Layouts.{reads, reached, refused, then, number, gives, value}
use Rattle.layout.proofs.Outcomes.{goes_on, stops, reads_gives, reads_whole, reads_short, then_reached}
use Rattle.layout.proofs.Decided.{checked_end}
use Rattle.planfile.specs.Rows.{map_of}
use Rattle.planfile.specs.Asks.{fields, asked_row}

word_read : (file : List ℕ) (p : ℕ) → p + 4 ≤ length file → reached (value file p 4) (p + 4) ≡ reads (number 4) file p
unfolding number
word_read file p h = sym (reads_whole 4 (fault Ends) (λ _ v. gives v) file p h ∙ reads_gives _ _ _)

word_short : (file : List ℕ) (p : ℕ) → length file < p + 4 → refused (fault Ends p) ≡ reads (number 4) file p
unfolding number
word_short file p h = sym (reads_short 4 (fault Ends) (λ _ v. gives v) file p h)

pub fields_whole : (k : ℕ) (file : List ℕ) (p : ℕ) → p + 4 * k ≤ length file → reads (fields k) file p ≡ reached tt (p + 4 * k)
unfolding fields
fields_whole zero file p h = reads_gives tt file p ∙ ap (reached tt) (omega arith)
fields_whole (suc k) file p h =
    goes_on (number 4) (λ _. fields k) file p _ _ (word_read file p (omega arith))
    ∙ fields_whole k file (p + 4) (omega arith) ∙ ap (reached tt) (omega arith)

pub fields_short : (k : ℕ) (file : List ℕ) (p : ℕ) → p ≤ length file → (length file - p) / 4 < k →
    reads (fields k) file p ≡ refused (fault Ends (p + 4 * ((length file - p) / 4)))
unfolding fields
fields_short zero file p l h = absurd (omega arith)
fields_short (suc k) file p l h =
    ⊎_elim
    (λ (s : length file < p + 4). stops (number 4) (λ _. fields k) file p _ (word_short file p s) ∙ ap (λ x. refused (fault Ends x)) (omega arith))
    (λ (s : p + 4 ≤ length file).
    goes_on (number 4) (λ _. fields k) file p _ _ (word_read file p s)
    ∙ fields_short k file (p + 4) s (omega arith) ∙ ap (λ x. refused (fault Ends x)) (omega arith))
    (cases_lt (length file) (p + 4))

-- fields that were passed end 4 * k bytes on
fields_end : (k : ℕ) (file : List ℕ) (p q : ℕ) (u : Unit) → p ≤ length file → reached u q ≡ reads (fields k) file p → (q ≡ p + 4 * k) × (q ≤ length file)
fields_end k file p q u l e =
    ⊎_elim
    (λ (h : (length file - p) / 4 < k). let s = e ∙ fields_short k file p l h in let z : ◌≡◌ {A = ℕ} 0 1 = cc in absurd (omega arith))
    (λ (h : k ≤ (length file - p) / 4). let s = e ∙ fields_whole k file p (omega arith) in let t : q ≡ p + 4 * k = cc in (t, omega arith))
    (cases_lt ((length file - p) / 4) k)

-- a row that was asked for ends after its map and as many fields as bits stand
pub asked_end : (n : ℕ) (file : List ℕ) (p m q : ℕ) → reached m q ≡ reads (asked_row n) file p → (q ≡ p + 4 + 4 * ones m) × (q ≤ length file)
asked_end n file p m q e =
    let t = then_reached (map_of n) (λ k. then (fields (ones k)) (λ _. gives k)) file p m q e in
    let a = checked_end 4 file p Bit (λ k. ltb k (2 ^ n)) t.0 t.1 t.2 in
    let s = then_reached (fields (ones t.0)) (λ _. gives t.0) file t.1 m q t.3 in
    let f = fields_end (ones t.0) file t.1 s.1 s.0 (omega arith) s.2 in
    let g = s.3 ∙ reads_gives t.0 file s.1 in
    let m1 : m ≡ t.0 = cc in
    let q1 : q ≡ s.1 = cc in
    let o : ones m ≡ ones t.0 = ap ones m1 in
    (omega (arith, f.0), omega (arith, f.1))
