-- What a replica knows, with one more value.
use Rattle.std.proofs.Common.{◌≡◌, ◌≢◌, ℕ, ◌+◌, eqb, [], ◌∷◌, ◌++◌, sym, ap, ◌∙◌, add-one, ⊎_elim}
use Rattle.std.proofs.lemmas.Bool.{cond-true, cond-false, eq-eqb, eqb-true, cases_Bool}
use Rattle.log_base.specs.ClusterShape.{Shape}
use Rattle.record_frame.specs.declared.values.Value.{Value}
use Rattle.log_model.specs.Chain.{apply, covered_by}
use Rattle.log_model.specs.Storage.{Member, Knowledge}
use Rattle.log_model.specs.Learning.{known_after, knowing}
use Rattle.cut_chain.specs.Known.{Known, learned}
use Rattle.cut_chain.proofs.Growing.{known_grows}
use Rattle.peer_copy.specs.Copying.{Copying}
use Rattle.shard_replica.specs.Indexed.{Stored}
use Rattle.shard_replica.specs.Replica.{ReplicaState, IsReplica, knowledge_in}

-- the value of another slot than the next one changes nothing
pub learn-other : (member : Member) (known : Knowledge) (slot : ℕ) (value : Value) → slot ≢ known.count → known ≡ known_after member known slot value
unfolding known_after
learn-other member known slot value other =
    ⊎_elim
    (λ same. absurd (other (eqb-true slot known.count same)))
    (λ apart. sym (cond-false (eqb slot known.count) (knowing member known value) known apart))
    (cases_Bool (eqb slot known.count))

-- the value of the next slot is applied
pub learn-next : (member : Member) (known : Known) (slot : ℕ) (value : Value) → known.config.replicas ≡ member.replicas → slot ≡ known.count
    → knowledge_in (learned known value) ≡ known_after member (knowledge_in known) slot value
unfolding known_after
learn-next member known slot value same next =
    let with : ℕ → ℕ → Knowledge = λ r n. record { chain = apply r known.chain value; places = known.places ++ covered_by r known.chain value; count = n } in
    ap (λ (r : ℕ). with r (known.count + 1)) same
    ∙ ap (λ (n : ℕ). with member.replicas n) (add-one known.count)
    ∙ sym (cond-true (eqb slot known.count) (knowing member (knowledge_in known) value) (knowledge_in known) (eq-eqb slot known.count next))

-- a state with what is known
abbrev pub with_known : ReplicaState → Knowledge → ReplicaState
with_known state known = record state { known = known }

-- a replica after one more value
pub IsReplica-learned : (config : Shape) (shard own : ℕ) (lists : Stored) (known next : Known) (copying : Copying) (value : Value)
    → next ≡ learned known value → IsReplica config shard own lists known copying → IsReplica config shard own lists next copying
IsReplica-learned config shard own lists known next copying value is kept = record {
  shard_in = kept.shard_in;
  own_in = kept.own_in;
  own_list = kept.own_list;
  count = kept.count;
  values = kept.values ++ value ∷ [];
  known_is = is ∙ ap (λ (k : Known). learned k value) kept.known_is ∙ known_grows config kept.values value;
  copier = kept.copier;
  peers = kept.peers;
}
