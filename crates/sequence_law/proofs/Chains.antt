-- What the chain of some values says of the chain of more values.
use Rattle.std.proofs.Common.{◌≡◌, ◌<◌, ◌≤◌, ◌*◌, ℕ, suc, List, [], ◌∷◌, ◌++◌, length, slice_get, Some, None, refl, sym, ap, subst, inl, inr, ⊎_elim, arith, append-nil, length-append, ◌∙◌}
use Rattle.std.proofs.lemmas.Bool.{cases_lt}
use Rattle.log_base.specs.declared.numbers.Place.{Place}
use Rattle.log_model.specs.Chain.{ChainState, Frozen, ShardState, apply, apply_all, chain_of, covered_by, covered_length, covered_of, no_values, state_in}
use Rattle.log_model.specs.Learning.{knowing}
use Rattle.log_model.specs.Lookup.{position_from}
use Rattle.log_model.specs.Places.{place_at}
use Rattle.log_model.specs.Spelling.{spell, spell_from}
use Rattle.log_model.specs.Storage.{Member, knowledge_of}
use Rattle.log_model.proofs.Appending.{chain_of-append, spell-append}
use Rattle.log_model.proofs.Frozen.{frozen-apply_all}
use Rattle.log_model.proofs.Spelled.{below_from_one, no_position, position_is_index, position_stays, spell-times, spelled_where_covered}
use Rattle.log_model.proofs.Times.{times-listed}
use Rattle.record_frame.specs.declared.values.Value.{Value}
use Rattle.agreement_law.specs.Elements.{In, IsPrefix}
use Rattle.safety_law.proofs.Covers.{IsBelow, apply_below}

module _ (replicas : ℕ) where
  pub place_stays : (values more : List Value) (place : Place) (p : ℕ) → IsPrefix values more → slice_get (spell replicas values) p ≡ Some place → slice_get (spell replicas more) p ≡ Some place
  place_stays values more place p front e =
      subst (λ (vs : List Value). slice_get (spell replicas vs) p ≡ Some place) front.1 (position_stays replicas values front.0 place p e)

  pub spell_rises : (values more : List Value) → IsPrefix values more → length (spell replicas values) ≤ length (spell replicas more)
  spell_rises values more front =
      subst (λ (vs : List Value). length (spell replicas values) ≤ length (spell replicas vs)) front.1
      (let all = ap length (spell-append replicas values front.0) in
      omega (arith, all, length-append (spell replicas values) (spell_from replicas (chain_of replicas values) front.0)))

  -- a place that is spelled is covered
  pub covered_at : (values : List Value) (s j o p : ℕ) → slice_get (spell replicas values) p ≡ Some (place_at s j o) → o < covered_of (chain_of replicas values) s j
  covered_at values s j o p e =
      below_from_one o (covered_of (chain_of replicas values) s j)
      (omega (arith, spell-times replicas values s j o, times-listed (spell replicas values) p (place_at s j o) e))

  pub position_known : (values : List Value) (place : Place) (p : ℕ) → position_from 0 (spell replicas values) place ≡ Some p → slice_get (spell replicas values) p ≡ Some place
  position_known values place p e = (position_is_index replicas values place p).0 e

  -- a place that is not spelled is not covered
  pub not_covered : (values : List Value) (s j o : ℕ) → position_from 0 (spell replicas values) (place_at s j o) ≡ None → covered_of (chain_of replicas values) s j ≤ o
  not_covered values s j o e =
      ⊎_elim
      (λ below. absurd ((no_position replicas values (place_at s j o)).0 e ((spelled_where_covered replicas values s j o).1 below)))
      (λ past. past)
      (cases_lt o (covered_of (chain_of replicas values) s j))

  -- a frozen shard is not covered further
  pub frozen_stays : (values more : List Value) (s j : ℕ) (state : ShardState) → IsPrefix values more → state_in (chain_of replicas values).shards s ≡ Some state → state.standing ≡ Frozen
      → covered_of (chain_of replicas more) s j ≡ covered_of (chain_of replicas values) s j
  frozen_stays values more s j state front is frozen =
      subst (λ (vs : List Value). covered_of (chain_of replicas vs) s j ≡ covered_of (chain_of replicas values) s j) front.1
      (ap (λ (c : ChainState). covered_of c s j) (chain_of-append replicas values front.0)
      ∙ ap (λ o. covered_length o j) (frozen-apply_all replicas (chain_of replicas values) front.0 s state is frozen ∙ sym is))

  -- what each cut is below, the covered length is below
  pub all_below : (values : List Value) (chain : ChainState) (s j bound : ℕ) → covered_of chain s j ≤ bound
      → ((v : Value) → In v values → IsBelow (s * replicas) j bound v) → covered_of (apply_all replicas chain values) s j ≤ bound
  all_below [] chain s j bound h f = h
  all_below (v ∷ values) chain s j bound h f =
      all_below values (apply replicas chain v) s j bound (apply_below replicas chain v s j bound h (f v (inl refl))) (λ x a. f x (inr a))

  pub chain_below : (values : List Value) (s j bound : ℕ) → ((v : Value) → In v values → IsBelow (s * replicas) j bound v) → covered_of (chain_of replicas values) s j ≤ bound
  chain_below values s j bound f = all_below values no_values s j bound (omega arith) f

-- what is known after one value more
pub knowing_values : (member : Member) (values : List Value) (v : Value) → knowing member (knowledge_of member values) v ≡ knowledge_of member (values ++ v ∷ [])
knowing_values member values v = λ i. record {
  chain = sym (chain_of-append member.replicas values (v ∷ [])) i;
  places = sym (spell-append member.replicas values (v ∷ []) ∙ ap (λ (l : List Place). spell member.replicas values ++ l) (append-nil (covered_by member.replicas (chain_of member.replicas values) v))) i;
  count = size i;
}
  where
    size : suc (length values) ≡ length (values ++ v ∷ [])
    size = omega (arith, length-append values (v ∷ []))
