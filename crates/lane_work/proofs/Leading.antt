-- Orders to lead behind a reply.
use Rattle.std.proofs.Common.{◌≡◌, ℕ, ◌+◌, ◌<◌, ◌≤◌, List, [], ◌∷◌, Ok, refl, sym, subst, inl, inr, ◌∙◌, ⊎_elim, arith}
use Rattle.std.proofs.lemmas.List.{append-nil}
use Rattle.history_frame.specs.declared.events.Happened.{Happened}
use Rattle.log_base.specs.ClusterShape.{Shape}
use Rattle.reply_frame.specs.declared.replies.Reply.{Reply, NoLeader}
use Rattle.tied_cells.specs.declared.account.Account.{Account}
use Rattle.tied_cells.specs.declared.board.Own.{Own}
use Rattle.tied_cells.specs.Turns.{HasLeft, IsSpent}
use Rattle.lane_work.specs.declared.turning.Went.{Went}
use Rattle.lane_work.specs.declared.turning.Went.TheVariants.{Made, Spent}
use Rattle.lane_work.specs.Items.{IsLeadOf, Leads}
use Rattle.lane_work.specs.Keeping.{IsLed, Makes}

-- a pass that has an event left is not spent
pub not_spent : (account : Account) → HasLeft account → IsSpent account → ⊥
not_spent account left spent = ⊎_elim
    (λ (places : account.places ≤ account.used). let used : account.used < account.places = left.0 in absurd (omega arith))
    (λ (room : account.room < account.bytes + 2097152). let bytes : account.bytes + 2097152 ≤ account.room = left.1 in absurd (omega arith))
    spent

module _ (config : Shape) (lane : ℕ) (old new : Account) (before after : List (Own Happened)) where
  pub led_by : (went : Went) (reply : Reply) → reply ≡ NoLeader → Makes (IsLeadOf config lane) old new before after (Ok went) → IsLed config lane old new before after reply
  led_by Made reply is h = let event = h.1.0 in record {
    led = event ∷ [];
    after_are = h.1.1;
    leads = subst (λ (r : Reply). Leads config lane new r (event ∷ []) []) (sym is) (inl (event, refl, h.1.2));
    stays = λ spent. absurd (not_spent old h.0 spent);
  }
  led_by Spent reply is h = record {
    led = [];
    after_are = h.2 ∙ sym (append-nil before);
    leads = subst (λ (r : Reply). Leads config lane new r [] []) (sym is) (inr (subst IsSpent (sym h.1) h.0, refl, refl));
    stays = λ spent. (refl, h.1);
  }

leads_none : (config : Shape) (lane : ℕ) (account : Account) (reply : Reply) → (reply ≡ NoLeader → ⊥) → Leads config lane account reply [] []
leads_none config lane account NoLeader other = absurd (other refl)
leads_none config lane account _ other = refl

pub not_led : (config : Shape) (lane : ℕ) (account : Account) (own : List (Own Happened)) (reply : Reply) → (reply ≡ NoLeader → ⊥)
    → IsLed config lane account account own own reply
not_led config lane account own reply other = record {
  led = [];
  after_are = sym (append-nil own);
  leads = leads_none config lane account reply other;
  stays = λ spent. (refl, refl);
}
