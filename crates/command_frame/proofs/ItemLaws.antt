-- What is read from a body is spelled so, and what is spelled is read again.
use Rattle.std.proofs.Common.{◌≡◌, ◌≢◌, ℕ, ◌<◌, ◌≤◌, ◌^◌, Bool, true, false, ◌&&◌, List, [], ◌∷◌, ◌++◌, length, length-append, drop, get_or, ltb, leb, eqb, cond, Option, Some, refl, sym, ap, ◌∙◌, subst, append-nil, arith}
use Rattle.std.proofs.lemmas.Bool.{and_parts, and_from, ltb-true, leb-true, eqb-true, lt-ltb, le-leb, eq-eqb, cond-true}
use Rattle.std.proofs.lemmas.Option.{cond_some}
use Rattle.std.proofs.lemmas.List.{length-drop, take_all}
use Rattle.log_base.proofs.Cuts.{drop-split}
use Rattle.log_base.specs.ClusterShape.{Shape, InRange}
use Rattle.log_base.specs.Wide.{IsBytes, be2, be8, number2, number8}
use Rattle.log_base.proofs.Wide.{length-be8, number2-be2, number8-be8, be2-number2, be8-number8, number8-lt, IsBytes-drop}
use Rattle.command_frame.specs.declared.items.Item.{Item}
use Rattle.command_frame.specs.declared.items.Item.TheVariants.{Append, Read, Subscribe, Trim, Add, Finalise, Ask, Fault}
use Rattle.command_frame.specs.Items.{item_kind, item_body, IsItem, Spells}
use Rattle.command_frame.specs.Reading.{names_shard, names_replica, append_of, read_of, subscribe_of, trim_of, add_of, finalise_of, ask_of, item_of}

-- ---- what is read is spelled so

three_front : (body : List ℕ) → IsBytes body → length body ≡ 3 → body ≡ get_or body 0 0 ∷ be2 (number2 body 1)
three_front [] h l = absurd (omega arith)
three_front (a ∷ []) h l = absurd (omega arith)
three_front (a ∷ b ∷ []) h l = absurd (omega arith)
three_front (a ∷ b ∷ c ∷ []) h l = ap (λ (two : List ℕ). a ∷ two) (sym (be2-number2 (a ∷ b ∷ c ∷ []) 1 h (omega arith)))
three_front (a ∷ b ∷ c ∷ d ∷ rest) h l = absurd (omega arith)

four_front : (body : List ℕ) → IsBytes body → 4 ≤ length body → body ≡ get_or body 0 0 ∷ be2 (number2 body 1) ++ get_or body 3 0 ∷ drop 4 body
four_front [] h l = absurd (omega arith)
four_front (a ∷ []) h l = absurd (omega arith)
four_front (a ∷ b ∷ []) h l = absurd (omega arith)
four_front (a ∷ b ∷ c ∷ []) h l = absurd (omega arith)
four_front (a ∷ b ∷ c ∷ d ∷ rest) h l = ap (λ (two : List ℕ). a ∷ two ++ d ∷ rest) (sym (be2-number2 (a ∷ b ∷ c ∷ d ∷ rest) 1 h (omega arith)))

eight_rest : (body : List ℕ) → IsBytes body → length body ≡ 12 → drop 4 body ≡ be8 (number8 body 4)
eight_rest body h l =
    sym (be8-number8 body 4 h (omega arith) ∙ take_all 8 (drop 4 body) (omega (arith, length-drop 4 body)))

ten_rest : (body : List ℕ) → IsBytes body → length body ≡ 14 → drop 4 body ≡ be8 (number8 body 4) ++ be2 (number2 body 12)
ten_rest body h l =
    let two : drop 12 body ≡ be2 (number2 body 12) = sym (be2-number2 body 12 h (omega arith) ∙ take_all 2 (drop 12 body) (omega (arith, length-drop 12 body))) in
    drop-split body 4 8 ∙ ap (λ (eight : List ℕ). eight ++ drop 12 body) (sym (be8-number8 body 4 h (omega arith))) ∙ ap (λ (rest : List ℕ). be8 (number8 body 4) ++ rest) two

nine_front : (body : List ℕ) → IsBytes body → length body ≡ 9 → body ≡ get_or body 0 0 ∷ be8 (number8 body 1)
nine_front [] h l = absurd (omega arith)
nine_front (a ∷ rest) h l =
    ap (λ (eight : List ℕ). a ∷ eight) (sym (be8-number8 (a ∷ rest) 1 h (omega arith) ∙ take_all 8 rest (omega arith)))

one_front : (body : List ℕ) → length body ≡ 1 → body ≡ get_or body 0 0 ∷ []
one_front [] l = absurd (omega arith)
one_front (a ∷ []) l = refl
one_front (a ∷ b ∷ rest) l = absurd (omega arith)

append_takes : (c : Shape) (body : List ℕ) (item : Item) → IsBytes body → append_of c body ≡ Some item → Spells c 1 body item
unfolding append_of
append_takes c body item h e =
    let found = cond_some (leb 4 (length body) && leb (length body) 65539 && names_replica c body) _ _ e in
    let long = and_parts (leb 4 (length body) && leb (length body) 65539) _ found.0 in
    let size = and_parts (leb 4 (length body)) _ long.0 in
    let named = and_parts (names_shard c body) _ long.1 in
    let lane = and_parts (ltb (get_or body 0 0) 64) _ named.0 in
    let four : 4 ≤ length body = leb-true 4 _ size.0 in
    let most : length body ≤ 65539 = leb-true _ 65539 size.1 in
    let record_size : length (drop 4 body) ≤ 65535 = omega (arith, length-drop 4 body) in
    subst (Spells c 1 body) found.1 (record {
      of_kind = refl;
      with_body = four_front body h four;
      is_item = (ltb-true _ 64 lane.0, ltb-true _ _ lane.1, ltb-true _ _ named.1, record_size, IsBytes-drop 4 body h);
    })

read_takes : (c : Shape) (body : List ℕ) (item : Item) → IsBytes body → read_of c body ≡ Some item → Spells c 2 body item
unfolding read_of
read_takes c body item h e =
    let found = cond_some (eqb (length body) 12 && names_replica c body) _ _ e in
    let long = and_parts (eqb (length body) 12) _ found.0 in
    let named = and_parts (names_shard c body) _ long.1 in
    let lane = and_parts (ltb (get_or body 0 0) 64) _ named.0 in
    let twelve : length body ≡ 12 = eqb-true _ 12 long.0 in
    let front = four_front body h (omega arith) ∙ ap (λ (l : List ℕ). get_or body 0 0 ∷ be2 (number2 body 1) ++ get_or body 3 0 ∷ l) (eight_rest body h twelve) in
    subst (Spells c 2 body) found.1 (record {
      of_kind = refl;
      with_body = front;
      is_item = (ltb-true _ 64 lane.0, ltb-true _ _ lane.1, ltb-true _ _ named.1, number8-lt body 4 h);
    })

subscribe_takes : (c : Shape) (body : List ℕ) (item : Item) → IsBytes body → subscribe_of c body ≡ Some item → Spells c 3 body item
unfolding subscribe_of
subscribe_takes c body item h e =
    let found = cond_some (eqb (length body) 14 && names_replica c body && leb 1 (number2 body 12) && leb (number2 body 12) 4096) _ _ e in
    let most = and_parts (eqb (length body) 14 && names_replica c body && leb 1 (number2 body 12)) _ found.0 in
    let least = and_parts (eqb (length body) 14 && names_replica c body) _ most.0 in
    let long = and_parts (eqb (length body) 14) _ least.0 in
    let named = and_parts (names_shard c body) _ long.1 in
    let lane = and_parts (ltb (get_or body 0 0) 64) _ named.0 in
    let fourteen : length body ≡ 14 = eqb-true _ 14 long.0 in
    let front = four_front body h (omega arith) ∙ ap (λ (l : List ℕ). get_or body 0 0 ∷ be2 (number2 body 1) ++ get_or body 3 0 ∷ l) (ten_rest body h fourteen) in
    subst (Spells c 3 body) found.1 (record {
      of_kind = refl;
      with_body = front;
      is_item = (ltb-true _ 64 lane.0, ltb-true _ _ lane.1, ltb-true _ _ named.1, number8-lt body 4 h, leb-true 1 _ least.1, leb-true _ 4096 most.1);
    })

trim_takes : (c : Shape) (body : List ℕ) (item : Item) → IsBytes body → trim_of body ≡ Some item → Spells c 4 body item
unfolding trim_of
trim_takes c body item h e =
    let found = cond_some (eqb (length body) 9 && ltb (get_or body 0 0) 64) _ _ e in
    let long = and_parts (eqb (length body) 9) _ found.0 in
    subst (Spells c 4 body) found.1 (record {
      of_kind = refl;
      with_body = nine_front body h (eqb-true _ 9 long.0);
      is_item = (ltb-true _ 64 long.1, number8-lt body 1 h);
    })

add_takes : (c : Shape) (body : List ℕ) (item : Item) → IsBytes body → add_of c body ≡ Some item → Spells c 5 body item
unfolding add_of
add_takes c body item h e =
    let found = cond_some (eqb (length body) 3 && names_shard c body) _ _ e in
    let long = and_parts (eqb (length body) 3) _ found.0 in
    let lane = and_parts (ltb (get_or body 0 0) 64) _ long.1 in
    subst (Spells c 5 body) found.1 (record {
      of_kind = refl;
      with_body = three_front body h (eqb-true _ 3 long.0);
      is_item = (ltb-true _ 64 lane.0, ltb-true _ _ lane.1);
    })

finalise_takes : (c : Shape) (body : List ℕ) (item : Item) → IsBytes body → finalise_of c body ≡ Some item → Spells c 6 body item
unfolding finalise_of
finalise_takes c body item h e =
    let found = cond_some (eqb (length body) 3 && names_shard c body) _ _ e in
    let long = and_parts (eqb (length body) 3) _ found.0 in
    let lane = and_parts (ltb (get_or body 0 0) 64) _ long.1 in
    subst (Spells c 6 body) found.1 (record {
      of_kind = refl;
      with_body = three_front body h (eqb-true _ 3 long.0);
      is_item = (ltb-true _ 64 lane.0, ltb-true _ _ lane.1);
    })

ask_takes : (c : Shape) (body : List ℕ) (item : Item) → ask_of body ≡ Some item → Spells c 7 body item
unfolding ask_of
ask_takes c body item e =
    let found = cond_some (eqb (length body) 1 && ltb (get_or body 0 0) 64) _ _ e in
    let long = and_parts (eqb (length body) 1) _ found.0 in
    subst (Spells c 7 body) found.1 (record {
      of_kind = refl;
      with_body = one_front body (eqb-true _ 1 long.0);
      is_item = ltb-true _ 64 long.1;
    })

-- one kind of several: what it reads is spelled so, and what the others read is
one_kind : (c : Shape) (kind known : ℕ) (body : List ℕ) (item : Item) (read others : Option Item) → (read ≡ Some item → Spells c known body item)
    → (others ≡ Some item → Spells c kind body item) → cond (eqb kind known) read others ≡ Some item → Spells c kind body item
one_kind c kind known body item read others this that e = either (eqb kind known) (eqb-true kind known) e
  where
    either : (is_known : Bool) → (is_known ≡ true → kind ≡ known) → cond is_known read others ≡ Some item → Spells c kind body item
    either true k e = subst (λ (n : ℕ). Spells c n body item) (sym (k refl)) (this e)
    either false k e = that e

pub item_takes : (c : Shape) (kind : ℕ) (body : List ℕ) (item : Item) → IsBytes body → item_of c kind body ≡ Some item → Spells c kind body item
unfolding item_of
item_takes c kind body item h =
    one_kind c kind 1 body item (append_of c body) _ (append_takes c body item h)
    (one_kind c kind 2 body item (read_of c body) _ (read_takes c body item h)
    (one_kind c kind 3 body item (subscribe_of c body) _ (subscribe_takes c body item h)
    (one_kind c kind 4 body item (trim_of body) _ (trim_takes c body item h)
    (one_kind c kind 5 body item (add_of c body) _ (add_takes c body item h)
    (one_kind c kind 6 body item (finalise_of c body) _ (finalise_takes c body item h)
    (one_kind c kind 7 body item (ask_of body) _ (ask_takes c body item) (λ e. cc)))))))

-- ---- what is spelled is read again

names_shard_again : (c : Shape) (lane shard : ℕ) (rest : List ℕ) → InRange c → lane < 64 → shard < c.shards
    → (number2 (lane ∷ be2 shard ++ rest) 1 ≡ shard) × (names_shard c (lane ∷ be2 shard ++ rest) ≡ true)
names_shard_again c lane shard rest range l s =
    let some = range.shards in
    let same : number2 (lane ∷ be2 shard ++ rest) 1 ≡ shard = number2-be2 shard 1 (lane ∷ []) rest refl (omega arith) in
    (same, and_from _ _ (lt-ltb lane 64 l) (lt-ltb _ _ (subst (λ (n : ℕ). n < c.shards) (sym same) s)))

append_found : (c : Shape) (body : List ℕ) → 4 ≤ length body → length body ≤ 65539 → names_replica c body ≡ true
    → append_of c body ≡ Some (Append (get_or body 0 0) (record { 0 = number2 body 1 }) (record { 0 = get_or body 3 0 }) (drop 4 body))
unfolding append_of
append_found c body least most named =
    cond-true (leb 4 (length body) && leb (length body) 65539 && names_replica c body) _ _ (and_from _ _ (and_from _ _ (le-leb 4 (length body) least) (le-leb (length body) 65539 most)) named)

append_again : (c : Shape) (lane shard replica : ℕ) (bytes : List ℕ) → InRange c → lane < 64 → shard < c.shards → replica < c.replicas
    → length bytes ≤ 65535
    → append_of c (lane ∷ be2 shard ++ replica ∷ bytes) ≡ Some (Append lane (record { 0 = shard }) (record { 0 = replica }) bytes)
unfolding be2
append_again c lane shard replica bytes range l s r size =
    let named = names_shard_again c lane shard (replica ∷ bytes) range l s in
    append_found c (lane ∷ be2 shard ++ replica ∷ bytes) (omega arith) (omega arith) (and_from _ _ named.1 (lt-ltb _ _ r))
    ∙ ap (λ (n : ℕ). Some (Append lane (record { 0 = n }) (record { 0 = replica }) bytes)) named.0

read_found : (c : Shape) (body : List ℕ) → length body ≡ 12 → names_replica c body ≡ true
    → read_of c body ≡ Some (Read (get_or body 0 0) (record { 0 = number2 body 1 }) (record { 0 = get_or body 3 0 }) (record { 0 = number8 body 4 }))
unfolding read_of
read_found c body size named =
    cond-true (eqb (length body) 12 && names_replica c body) _ _ (and_from _ _ (eq-eqb (length body) 12 size) named)

read_again : (c : Shape) (lane shard replica position : ℕ) → InRange c → lane < 64 → shard < c.shards → replica < c.replicas
    → position < 2 ^ 64
    → read_of c (lane ∷ be2 shard ++ replica ∷ be8 position)
    ≡ Some (Read lane (record { 0 = shard }) (record { 0 = replica }) (record { 0 = position }))
unfolding be2
read_again c lane shard replica position range l s r p =
    let named = names_shard_again c lane shard (replica ∷ be8 position) range l s in
    let at_end = number8-be8 position 4 (lane ∷ be2 shard ++ replica ∷ []) [] refl p in
    let place : number8 (lane ∷ be2 shard ++ replica ∷ be8 position) 4 ≡ position =
    subst (λ (l : List ℕ). number8 (lane ∷ be2 shard ++ replica ∷ l) 4 ≡ position) (append-nil (be8 position)) at_end in
    read_found c (lane ∷ be2 shard ++ replica ∷ be8 position) (omega (arith, length-be8 position)) (and_from _ _ named.1 (lt-ltb _ _ r))
    ∙ ap (λ (n : ℕ). Some (Read lane (record { 0 = n }) (record { 0 = replica }) (record { 0 = number8 (lane ∷ be2 shard ++ replica ∷ be8 position) 4 }))) named.0
    ∙ ap (λ (n : ℕ). Some (Read lane (record { 0 = shard }) (record { 0 = replica }) (record { 0 = n }))) place

subscribe_found : (c : Shape) (body : List ℕ) → length body ≡ 14 → names_replica c body ≡ true → 1 ≤ number2 body 12 → number2 body 12 ≤ 4096
    → subscribe_of c body
    ≡ Some (Subscribe (get_or body 0 0) (record { 0 = number2 body 1 }) (record { 0 = get_or body 3 0 }) (record { 0 = number8 body 4 }) (number2 body 12))
unfolding subscribe_of
subscribe_found c body size named least most =
    let front = and_from (eqb (length body) 14) (names_replica c body) (eq-eqb (length body) 14 size) named in
    cond-true (eqb (length body) 14 && names_replica c body && leb 1 (number2 body 12) && leb (number2 body 12) 4096) _ _
    (and_from _ _ (and_from _ _ front (le-leb 1 (number2 body 12) least)) (le-leb (number2 body 12) 4096 most))

subscribe_again : (c : Shape) (lane shard replica position count : ℕ) → InRange c → lane < 64 → shard < c.shards → replica < c.replicas
    → position < 2 ^ 64 → 1 ≤ count → count ≤ 4096
    → subscribe_of c (lane ∷ be2 shard ++ replica ∷ (be8 position ++ be2 count))
    ≡ Some (Subscribe lane (record { 0 = shard }) (record { 0 = replica }) (record { 0 = position }) count)
unfolding be2
subscribe_again c lane shard replica position count range l s r p least most =
    let body : List ℕ = lane ∷ be2 shard ++ replica ∷ (be8 position ++ be2 count) in
    let named = names_shard_again c lane shard (replica ∷ (be8 position ++ be2 count)) range l s in
    let place : number8 body 4 ≡ position = number8-be8 position 4 (lane ∷ be2 shard ++ replica ∷ []) (be2 count) refl p in
    let at_end : number2 (lane ∷ be2 shard ++ replica ∷ (be8 position ++ (be2 count ++ []))) 12 ≡ count =
    number2-be2 count 12 (lane ∷ be2 shard ++ replica ∷ be8 position) [] (omega (arith, length-be8 position)) (omega arith) in
    let wanted : number2 body 12 ≡ count =
    subst (λ (two : List ℕ). number2 (lane ∷ be2 shard ++ replica ∷ (be8 position ++ two)) 12 ≡ count) (append-nil (be2 count)) at_end in
    subscribe_found c body (omega (arith, length-append (be8 position) (be2 count), length-be8 position)) (and_from _ _ named.1 (lt-ltb _ _ r)) (omega arith) (omega arith)
    ∙ ap (λ (n : ℕ). Some (Subscribe lane (record { 0 = n }) (record { 0 = replica }) (record { 0 = number8 body 4 }) (number2 body 12))) named.0
    ∙ ap (λ (n : ℕ). Some (Subscribe lane (record { 0 = shard }) (record { 0 = replica }) (record { 0 = n }) (number2 body 12))) place
    ∙ ap (λ (n : ℕ). Some (Subscribe lane (record { 0 = shard }) (record { 0 = replica }) (record { 0 = position }) n)) wanted

trim_found : (body : List ℕ) → length body ≡ 9 → get_or body 0 0 < 64
    → trim_of body ≡ Some (Trim (get_or body 0 0) (record { 0 = number8 body 1 }))
unfolding trim_of
trim_found body size lane =
    cond-true (eqb (length body) 9 && ltb (get_or body 0 0) 64) _ _ (and_from _ _ (eq-eqb (length body) 9 size) (lt-ltb _ 64 lane))

trim_again : (lane position : ℕ) → lane < 64 → position < 2 ^ 64
    → trim_of (lane ∷ be8 position) ≡ Some (Trim lane (record { 0 = position }))
trim_again lane position l p =
    let at_end = number8-be8 position 1 (lane ∷ []) [] refl p in
    let place : number8 (lane ∷ be8 position) 1 ≡ position =
    subst (λ (l : List ℕ). number8 (lane ∷ l) 1 ≡ position) (append-nil (be8 position)) at_end in
    trim_found (lane ∷ be8 position) (omega (arith, length-be8 position)) l
    ∙ ap (λ (n : ℕ). Some (Trim lane (record { 0 = n }))) place

add_found : (c : Shape) (body : List ℕ) → length body ≡ 3 → names_shard c body ≡ true
    → add_of c body ≡ Some (Add (get_or body 0 0) (record { 0 = number2 body 1 }))
unfolding add_of
add_found c body size named =
    cond-true (eqb (length body) 3 && names_shard c body) _ _ (and_from _ _ (eq-eqb (length body) 3 size) named)

add_again : (c : Shape) (lane shard : ℕ) → InRange c → lane < 64 → shard < c.shards
    → add_of c (lane ∷ be2 shard) ≡ Some (Add lane (record { 0 = shard }))
unfolding be2
add_again c lane shard range l s =
    let named = names_shard_again c lane shard [] range l s in
    add_found c (lane ∷ be2 shard) refl named.1 ∙ ap (λ (n : ℕ). Some (Add lane (record { 0 = n }))) named.0

finalise_found : (c : Shape) (body : List ℕ) → length body ≡ 3 → names_shard c body ≡ true
    → finalise_of c body ≡ Some (Finalise (get_or body 0 0) (record { 0 = number2 body 1 }))
unfolding finalise_of
finalise_found c body size named =
    cond-true (eqb (length body) 3 && names_shard c body) _ _ (and_from _ _ (eq-eqb (length body) 3 size) named)

finalise_again : (c : Shape) (lane shard : ℕ) → InRange c → lane < 64 → shard < c.shards
    → finalise_of c (lane ∷ be2 shard) ≡ Some (Finalise lane (record { 0 = shard }))
unfolding be2
finalise_again c lane shard range l s =
    let named = names_shard_again c lane shard [] range l s in
    finalise_found c (lane ∷ be2 shard) refl named.1 ∙ ap (λ (n : ℕ). Some (Finalise lane (record { 0 = n }))) named.0

ask_again : (lane : ℕ) → lane < 64 → ask_of (lane ∷ []) ≡ Some (Ask lane)
unfolding ask_of
ask_again lane l = cond-true (eqb 1 1 && ltb lane 64) _ _ (and_from _ _ (eq-eqb 1 1 refl) (lt-ltb lane 64 l))

-- an item that is no fault is read again
pub item_again : (c : Shape) (item : Item) → InRange c → IsItem c item → item_kind item ≢ 8 → item_of c (item_kind item) (item_body item) ≡ Some item
unfolding item_of
item_again c (Append lane shard replica bytes) range is other = append_again c lane shard.0 replica.0 bytes range is.0 is.1 is.2 is.3
item_again c (Read lane shard replica position) range is other = read_again c lane shard.0 replica.0 position.0 range is.0 is.1 is.2 is.3
item_again c (Subscribe lane shard replica from count) range is other =
    subscribe_again c lane shard.0 replica.0 from.0 count range is.0 is.1 is.2 is.3 is.4 is.5
item_again c (Trim lane position) range is other = trim_again lane position.0 is.0 is.1
item_again c (Add lane shard) range is other = add_again c lane shard.0 range is.0 is.1
item_again c (Finalise lane shard) range is other = finalise_again c lane shard.0 range is.0 is.1
item_again c (Ask lane) range is other = ask_again lane is
item_again c (Fault lane fault) range is other = absurd (other refl)
