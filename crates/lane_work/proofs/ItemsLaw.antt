-- The items of a lane go on with one item more.
use Rattle.std.proofs.Common.{◌≡◌, ℕ, ◌+◌, ◌<◌, Bool, true, false, cond, ◌==◌, List, [], ◌∷◌, ◌++◌, length, take, get_or, refl, sym, ap, ◌∙◌, subst, inl, inr, eq-eqb, append_assoc, arith}
use Rattle.std.proofs.lemmas.Bool.Decides.{nat_tests}
use Rattle.std.proofs.lemmas.List.Elements.{filter_more}
use Rattle.std.proofs.lemmas.List.{append-nil}
use Rattle.client_session.specs.Sessions.{Drawing, fresh}
use Rattle.command_frame.specs.declared.items.Item.{Item}
use Rattle.history_frame.specs.declared.events.Happened.{Happened}
use Rattle.log_base.specs.ClusterShape.{Shape}
use Rattle.reply_frame.specs.declared.replies.Reply.{Reply, NoLeader, Spent}
use Rattle.tied_cells.specs.declared.account.Account.{Account}
use Rattle.tied_cells.specs.declared.board.Own.{Own}
use Rattle.tied_cells.specs.Turns.{IsSpent}
use Rattle.lane_work.specs.declared.stages.Stage.{Stage}
use Rattle.lane_work.specs.declared.stages.Stage.TheVariants.{Asks, Turns, Replied}
use Rattle.lane_work.specs.Items.{ItemsGo, Leads, items_of, lane_of}
use Rattle.lane_work.specs.Keeping.{HasAnswer}
use Rattle.lane_work.specs.Stages.{AreDue, IsCut, IsReplyAt, after_events, after_item, begun}

-- the lane's session after items
abbrev pub session_after : Shape → Drawing → List Item → Drawing
session_after config session [] = session
session_after config session (item ∷ items) = session_after config (after_item config session item) items

pub session_after-push : (config : Shape) (session : Drawing) (items : List Item) (item : Item)
    → session_after config session (items ++ item ∷ []) ≡ after_item config (session_after config session items) item
session_after-push config session [] item = refl
session_after-push config session (first ∷ items) item = session_after-push config (after_item config session first) items item

-- a pass that was spent made no more events, and has the account that it had
abbrev pub Stays : Account → Account → List (Own Happened) → Type 0
Stays old new more = IsSpent old → (more ≡ []) × (new ≡ old)

cut_later : (old new : Account) (later more : List (Own Happened)) (reply : Reply) → Stays old new more → IsCut old later reply → IsCut new (later ++ more) reply
cut_later old new later more reply stays cut = let s = stays cut.spent in record {
  spent = subst IsSpent (sym s.1) cut.spent;
  told = cut.told ∙ ap (λ (a : Account). Spent a.used) (sym s.1);
  none_later = λ i. cut.none_later i ++ s.0 i;
}

pub reply_later : (old new : Account) (later more : List (Own Happened)) (stage : Stage) (reply : Reply) → Stays old new more
    → IsReplyAt old later stage reply → IsReplyAt new (later ++ more) stage reply
reply_later old new later more (Asks asking) reply stays h = cut_later old new later more reply stays h
reply_later old new later more (Turns next asking) reply stays h = cut_later old new later more reply stays h
reply_later old new later more (Replied told) reply stays h = h

leads_later : (config : Shape) (lane : ℕ) (old new : Account) (reply : Reply) (led later more : List (Own Happened)) → Stays old new more
    → Leads config lane old reply led later → Leads config lane new reply led (later ++ more)
leads_later config lane old new NoLeader led later more stays (inl made) = inl made
leads_later config lane old new NoLeader led later more stays (inr none) =
    let s = stays none.0 in inr (subst IsSpent (sym s.1) none.0, none.1, λ i. none.2 i ++ s.0 i)
leads_later config lane old new _ led later more stays h = h

-- one item more, whose events are these
module _ (config : Shape) (lane : ℕ) (old new : Account) (item : Item) (own led : List (Own Happened)) (reply : Reply) (stays : Stays old new (own ++ led)) where
  pub items_more : (session : Drawing) (items : List Item) (events : List (Own Happened)) (replies : List Reply)
      → AreDue config (begun config (session_after config session items) item) own
      → IsReplyAt new led (after_events config (begun config (session_after config session items) item) own) reply
      → Leads config lane new reply led []
      → ItemsGo config lane old session items events replies
      → ItemsGo config lane new session (items ++ item ∷ []) (events ++ (own ++ led)) (replies ++ reply ∷ [])
  items_more session [] events replies due ends leads h = record {
    own = own;
    led = led;
    later = [];
    reply = reply;
    others = [];
    events_are = (λ i. h.0 i ++ (own ++ led)) ∙ ap (λ (l : List (Own Happened)). own ++ l) (sym (append-nil led));
    replies_are = λ i. h.1 i ++ reply ∷ [];
    each_due = due;
    ends = subst (λ (l : List (Own Happened)). IsReplyAt new l (after_events config (begun config session item) own) reply) (sym (append-nil led)) ends;
    leads = leads;
    go_on = (refl, refl);
  }
  items_more session (first ∷ items) events replies due ends leads h = record {
    own = h.own;
    led = h.led;
    later = h.later ++ (own ++ led);
    reply = h.reply;
    others = h.others ++ reply ∷ [];
    events_are = (λ i. h.events_are i ++ (own ++ led)) ∙ (append_assoc h.own (h.led ++ h.later) (own ++ led)
        ∙ ap (λ (l : List (Own Happened)). h.own ++ l) (append_assoc h.led h.later (own ++ led)));
    replies_are = λ i. h.replies_are i ++ reply ∷ [];
    each_due = h.each_due;
    ends = subst (λ (l : List (Own Happened)). IsReplyAt new l (after_events config (begun config session first) h.own) h.reply) (append_assoc h.led h.later (own ++ led))
        (reply_later old new (h.led ++ h.later) (own ++ led) (after_events config (begun config session first) h.own) h.reply stays h.ends);
    leads = leads_later config lane old new h.reply h.led h.later (own ++ led) stays h.leads;
    go_on = items_more (after_item config session first) items h.later h.others due ends leads h.go_on;
  }

-- ---- the items of a lane so far

-- The items of a lane among these went from a fresh session on, and the pass made these events behind those before.
pub record HaveGone (config : Shape) (lane run : ℕ) (account : Account) (before own : List (Own Happened)) (session : Drawing) (items : List Item) (replies : List Reply) : Type 0 where
  pub events : List (Own Happened)
  pub own_are : own ≡ before ++ events
  pub session_is : session ≡ session_after config (fresh lane run) (items_of lane items)
  pub go : ItemsGo config lane account (fresh lane run) (items_of lane items) events replies

pub gone_none : (config : Shape) (lane run : ℕ) (account : Account) (own : List (Own Happened)) → HaveGone config lane run account own own (fresh lane run) [] []
gone_none config lane run account own = record { events = []; own_are = sym (append-nil own); session_is = refl; go = (refl, refl) }

-- with an item of another lane there are no more of the lane
pub gone_past : (config : Shape) (lane run : ℕ) (account : Account) (before own : List (Own Happened)) (session : Drawing) (items more : List Item) (replies : List Reply)
    → items_of lane more ≡ items_of lane items → HaveGone config lane run account before own session items replies → HaveGone config lane run account before own session more replies
gone_past config lane run account before own session items more replies same h = record {
  events = h.events;
  own_are = h.own_are;
  session_is = h.session_is ∙ ap (λ (some : List Item). session_after config (fresh lane run) some) (sym same);
  go = subst (λ (some : List Item). ItemsGo config lane account (fresh lane run) some h.events replies) (sym same) h.go;
}

-- an item of the lane was served
pub gone_more : (config : Shape) (lane run : ℕ) (old new : Account) (before own after : List (Own Happened)) (session next : Drawing) (items more : List Item) (replies : List Reply)
    (item : Item) (reply : Reply) → items_of lane more ≡ items_of lane items ++ item ∷ [] → next ≡ after_item config session item
    → HasAnswer config lane session item old new own after reply
    → HaveGone config lane run old before own session items replies → HaveGone config lane run new before after next more (replies ++ reply ∷ [])
gone_more config lane run old new before own after session next items more replies item reply same next_is answer h =
    let first = fresh lane run in let here = items_of lane items in
    let a = subst (λ (s : Drawing). HasAnswer config lane s item old new own after reply) h.session_is answer in record {
      events = h.events ++ (a.own ++ a.led);
      own_are = a.after_are ∙ ((λ i. h.own_are i ++ (a.own ++ a.led)) ∙ append_assoc before h.events (a.own ++ a.led));
      session_is = next_is ∙ (ap (λ (s : Drawing). after_item config s item) h.session_is
          ∙ (sym (session_after-push config first here item) ∙ ap (λ (some : List Item). session_after config first some) (sym same)));
      go = subst (λ (some : List Item). ItemsGo config lane new first some (h.events ++ (a.own ++ a.led)) (replies ++ reply ∷ [])) (sym same)
          (items_more config lane old new item a.own a.led reply a.stays first here h.events replies a.each_due a.ends a.leads h.go);
    }

-- ---- the items one after another

differs : (n m : ℕ) → (n ≡ m → ⊥) → (n == m) ≡ false
differs n m other = grind (arith, nat_tests)

module _ (lane : ℕ) (items : List Item) (i : ℕ) (item : Item) (here : item ≡ get_or items i item) (low : i < length items) where
  taken_is : (chosen : Bool) → (lane_of item == lane) ≡ chosen → items_of lane (take (i + 1) items) ≡ items_of lane (take i items) ++ cond chosen (item ∷ []) []
  taken_is chosen e =
      filter_more (λ (x : Item). lane_of x == lane) items i item low
      ∙ (ap (λ (x : Item). items_of lane (take i items) ++ cond (lane_of x == lane) (x ∷ []) []) (sym here)
      ∙ ap (λ (b : Bool). items_of lane (take i items) ++ cond b (item ∷ []) []) e)

  pub taken_one : lane_of item ≡ lane → items_of lane (take (i + 1) items) ≡ items_of lane (take i items) ++ item ∷ []
  taken_one is = taken_is true (eq-eqb (lane_of item) lane is)

  pub taken_none : (lane_of item ≡ lane → ⊥) → items_of lane (take (i + 1) items) ≡ items_of lane (take i items)
  taken_none other = taken_is false (differs (lane_of item) lane other) ∙ append-nil (items_of lane (take i items))
