use Rattle.std.proofs.Common.{◌/◌, ◌^◌, ◌<◌, ◌≤◌, ltb}
use Rattle.std.proofs.lemmas.Bool.{lt-ltb, le-ltb}
use Rattle.network.specs.declared.refusal.Refusal.TheVariants.{Bit}
use Rattle.layout.proofs.Decided.{checked_fault, checked_ok, checked_bad}
use Rattle.planfile.proofs.Bits.{below_pow, above_pow, more_bits, no_bits}
use Rattle.planfile.proofs.maps.read_map.Goals as goal

pub returns-in_err-map-clause-reads : goal.returns-in_err-map-clause-reads
returns-in_err-map-clause-reads c = checked_fault 4 Bit _ c.in_err-map.field-0.0 c.in_err-map.ensures c.from_residual.ensures.1

pub returns-then-has_more-clause-reads : goal.returns-then-has_more-clause-reads
returns-then-has_more-clause-reads c =
    let m = c.in_ok-map.map in
    let n = c.args.benches in
    let b : 2 ^ n ≤ m = above_pow m n (more_bits (m / 2 ^ n) c.if-has_more.ensures) in
    checked_bad 4 Bit (λ k. ltb k (2 ^ n)) c.in_ok-map.ensures (le-ltb m (2 ^ n) b)

pub returns : goal.returns
returns c =
    let m = c.in_ok-map.map in
    let n = c.args.benches in
    let b : m < 2 ^ n = below_pow m n (no_bits (m / 2 ^ n) c.if-has_more.ensures) in
    record { reads = checked_ok 4 Bit (λ k. ltb k (2 ^ n)) c.in_ok-map.ensures (lt-ltb m (2 ^ n) b); small = b }
