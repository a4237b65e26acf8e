use Rattle.std.proofs.Common.{◌≡◌, ◌∙◌, ℕ, ◌<◌, ◌≤◌, ◌-◌, List, Some, sym, ap, subst, length, take, drop, arith}
use Rattle.std.specs.Prelude.{slice_get}
use Rattle.log_base.specs.Shape.{shape}
use Rattle.log_base.specs.declared.numbers.Position.{Position}
use Rattle.log_model.specs.Chain.{ChainState, chain_of, covered_of}
use Rattle.log_model.specs.Spelling.{spell}
use Rattle.log_model.specs.Storage.{list_in, entry_in}
use Rattle.record_frame.specs.declared.entries.Entry.{Entry}
use Rattle.cut_chain.specs.Known.{Known}
use Rattle.shard_replica.specs.Lists.{segment_at}
use Rattle.shard_replica.specs.Replica.{Replicated, member_of, lists_of}
use Rattle.shard_replica.proofs.Held.{place-covered, list-of, read-found, record-of, found-told}
use Rattle.shard_replica.proofs.Putting.{length-spelled}
use Rattle.shard_replica.proofs.replica.ShardReplica.read.Goals as goal

pub payload-payload-requires-clause-segment : goal.payload-payload-requires-clause-segment
payload-payload-requires-clause-segment g c =
    let place = c.in-Some.place in
    let config = shape c.self.inside.config in
    let values = c.self.invariant.values in
    let state = c.args.self.now.state in
    let there : slice_get (spell config.replicas values) c.args.position.0 ≡ Some place =
    ap (λ (k : Known). slice_get k.places c.args.position.0) (sym c.self.invariant.known_is) ∙ sym c.place.ensures ∙ c.in-Some.is in
    let covered = place-covered config.replicas values c.args.position.0 place there in
    subst (λ (n : ℕ). place.segment.0 < n) (sym c.self.invariant.count) covered.0

pub payload-payload-requires-clause-offset : goal.payload-payload-requires-clause-offset
payload-payload-requires-clause-offset g c =
    let place = c.in-Some.place in
    let config = shape c.self.inside.config in
    let values = c.self.invariant.values in
    let state = c.args.self.now.state in
    let there : slice_get (spell config.replicas values) c.args.position.0 ≡ Some place =
    ap (λ (k : Known). slice_get k.places c.args.position.0) (sym c.self.invariant.known_is) ∙ sym c.place.ensures ∙ c.in-Some.is in
    let covered = place-covered config.replicas values c.args.position.0 place there in
    let shard : place.shard.0 ≡ state.shard = c.if-place-self.false ∙ ap (λ (r : Replicated). r.state.shard) c.self.view_is in
    let replicas : config.replicas ≡ state.config.replicas = ap (λ (r : Replicated). r.state.config.replicas) c.self.view_is in
    let within : place.segment.0 < length state.segments =
    subst (λ (r : Replicated). place.segment.0 < length r.state.segments) c.self.view_is (subst (λ (n : ℕ). place.segment.0 < n) (sym c.self.invariant.count) covered.0) in
    let chain : chain_of config.replicas values ≡ state.known.chain =
    ap (λ (k : Known). k.chain) (sym c.self.invariant.known_is) ∙ ap (λ (r : Replicated). r.state.known.chain) c.self.view_is in
    let reach : covered_of state.known.chain state.shard place.segment.0 ≤ length (list_in (lists_of state) place.segment.0) =
    c.requires place.segment.0 (subst (λ (n : ℕ). place.segment.0 < n) replicas covered.0) in
    let below : place.offset < covered_of state.known.chain state.shard place.segment.0 =
    subst (λ (n : ℕ). place.offset < covered_of state.known.chain n place.segment.0) shard
    (subst (λ (ch : ChainState). place.offset < covered_of ch place.shard.0 place.segment.0) chain covered.1) in
    let offset : place.offset < length (segment_at state.segments place.segment.0).entries =
    subst (λ (es : List Entry). place.offset < length es) (list-of state.segments place.segment.0 within) (omega (arith, reach, below)) in
    subst (λ (r : Replicated). place.offset < length (segment_at r.state.segments place.segment.0).entries) (sym c.self.view_is) offset

pub slice_bounds-result-count : goal.slice_bounds-result-count
slice_bounds-result-count g c = let size = length-spelled c.payload-payload.result.now c.payload-payload.ensures.spelled in size.0

pub slice_bounds-result-start : goal.slice_bounds-result-start
slice_bounds-result-start g c = let size = length-spelled c.payload-payload.result.now c.payload-payload.ensures.spelled in omega (arith, size.0)

pub returns-clause-answer : goal.returns-clause-answer
returns-clause-answer g c =
    let place = c.in-Some.place in
    let config = shape c.self.inside.config in
    let values = c.self.invariant.values in
    let state = c.args.self.now.state in
    let there : slice_get (spell config.replicas values) c.args.position.0 ≡ Some place =
    ap (λ (k : Known). slice_get k.places c.args.position.0) (sym c.self.invariant.known_is) ∙ sym c.place.ensures ∙ c.in-Some.is in
    let covered = place-covered config.replicas values c.args.position.0 place there in
    let shard : place.shard.0 ≡ state.shard = c.if-place-self.false ∙ ap (λ (r : Replicated). r.state.shard) c.self.view_is in
    let replicas : config.replicas ≡ state.config.replicas = ap (λ (r : Replicated). r.state.config.replicas) c.self.view_is in
    let within : place.segment.0 < length state.segments =
    subst (λ (r : Replicated). place.segment.0 < length r.state.segments) c.self.view_is (subst (λ (n : ℕ). place.segment.0 < n) (sym c.self.invariant.count) covered.0) in
    let chain : chain_of config.replicas values ≡ state.known.chain =
    ap (λ (k : Known). k.chain) (sym c.self.invariant.known_is) ∙ ap (λ (r : Replicated). r.state.known.chain) c.self.view_is in
    let reach : covered_of state.known.chain state.shard place.segment.0 ≤ length (list_in (lists_of state) place.segment.0) =
    c.requires place.segment.0 (subst (λ (n : ℕ). place.segment.0 < n) replicas covered.0) in
    let below : place.offset < covered_of state.known.chain state.shard place.segment.0 =
    subst (λ (n : ℕ). place.offset < covered_of state.known.chain n place.segment.0) shard
    (subst (λ (ch : ChainState). place.offset < covered_of ch place.shard.0 place.segment.0) chain covered.1) in
    let payload = c.payload-payload.result.now in
    let found : slice_get (list_in (lists_of state) place.segment.0) place.offset ≡ Some (entry_in payload) =
    subst (λ (es : List Entry). slice_get es place.offset ≡ Some (entry_in payload)) (sym (list-of state.segments place.segment.0 within))
    (subst (λ (r : Replicated). slice_get (segment_at r.state.segments place.segment.0).entries place.offset ≡ Some (entry_in payload)) c.self.view_is c.payload-payload.ensures.entry) in
    let at : slice_get state.known.places c.args.position.0 ≡ Some place =
    ap (λ (r : Replicated). slice_get r.state.known.places c.args.position.0) (sym c.self.view_is) ∙ sym c.place.ensures ∙ c.in-Some.is in
    let mark : state.known.chain.mark ≤ c.args.position.0 =
    subst (λ (r : Replicated). r.state.known.chain.mark ≤ c.args.position.0) c.self.view_is
    (subst (λ (p : Position). p.0 ≤ c.args.position.0) c.trim-mark.ensures c.if-position-mark.false) in
    let told = found-told c.head_of-head.result payload (take (length payload - 15) (drop 15 payload)) (record-of payload c.payload-payload.ensures.spelled) c.head_of-head.ensures in
    (read-found (member_of state) (lists_of state) state.known c.args.position.0 place (entry_in payload) mark at shard found ∙ told.0, told.1)

pub returns-clause-size : goal.returns-clause-size
returns-clause-size g c =
    let payload = c.payload-payload.result.now in
    let spelled = c.payload-payload.ensures.spelled in
    subst (λ (bytes : List ℕ). length bytes ≤ 65535) (sym (record-of payload spelled)) spelled.entry.size
