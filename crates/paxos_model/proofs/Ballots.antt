-- The ballots of an orderer.
use Rattle.std.proofs.Common.{◌≡◌, ℕ, ◌+◌, ◌-◌, ◌*◌, ◌/◌, ◌%◌, ◌<◌, ◌≤◌, mul-le-mul_right, mul-pos, div-lt_iff_lt-mul, arith}
use Rattle.std.proofs.lemmas.Nat.{mod-mul-add}
use Rattle.paxos_model.specs.Leader.{ballot_above}

pub ballot_above-own : (orderers orderer number : ℕ) → orderer < orderers → ballot_above orderers orderer number % orderers ≡ orderer
ballot_above-own orderers orderer number h = mod-mul-add ((number - orderer) / orderers + 1) orderers orderer h

pub ballot_above-above : (orderers orderer number : ℕ) → orderer < orderers → number < ballot_above orderers orderer number
ballot_above-above orderers orderer number h = omega arith

pub ballot_above-least : (orderers orderer number round : ℕ)
    → orderer < orderers → 1 ≤ round → number < round * orderers + orderer
    → ballot_above orderers orderer number ≤ round * orderers + orderer
ballot_above-least orderers orderer number round h one above =
    let some : 0 < orderers = omega arith in
    let positive : 0 < round * orderers = mul-pos one some in
    let below : number - orderer < round * orderers = omega arith in
    let quotient : (number - orderer) / orderers < round = (div-lt_iff_lt-mul some).1 below in
    let step : (number - orderer) / orderers + 1 ≤ round = omega arith in
    omega (arith, mul-le-mul_right orderers step)
