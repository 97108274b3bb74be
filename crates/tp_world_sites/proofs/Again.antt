-- A node that stops and is declared again: its history, and what its site answers.
use Rattle.std.proofs.Common.{◌≡◌, ◌==◌, ℕ, Bool, true, cond, refl, ap, sym, ◌∙◌, subst, arith, Option, None, Err, List, ◌∷◌}
use Rattle.std.specs.Option.{option_map}
use Rattle.std.proofs.lemmas.Bool.Decides.{nat_tests}
use Rattle.tp_names.specs.declared.identifiers.Addr.{Addr}
use Rattle.tp_logrec.specs.declared.record.LogRec.{LogRec}
use Rattle.tp_journal.specs.declared.faults.ForceFault.TheVariants as force
use Rattle.tp_model.specs.Events.{refusal, verdict, after_crash, action}
use Rattle.tp_model.specs.Happenings.{log_shown, restarted}
use Rattle.tp_model.specs.History.{digest, with_entry, crashed}
use Rattle.tp_model.specs.Legal.{IsLegal, IsGrown}
use Rattle.tp_model.specs.Node.{Move}
use Rattle.tp_model.specs.Outcomes.{is_unchanged}
use Rattle.tp_model.specs.declared.refusal.Refusal.{Refusal}
use Rattle.tp_model.specs.Refusal.{number_in}
use Rattle.tp_model.specs.Parts.{Who, Origin, Event, Digest, Entry as EntryValue}
use Rattle.tp_model.specs.World.{Node, number_of}
use Rattle.tp_site.specs.NodeEvent.{Answer as Said, Happens, answer_at}
use Rattle.tp_site.specs.Nodes.{who_at, IsSameSite}
use Rattle.tp_site.specs.Site.{IsForced, IsUnforced, known_at, rec_of}
use Rattle.tp_site.specs.State.{tree_in}
use Rattle.tp_world_sites.specs.Restarts.{stopped}
use Rattle.tp_world_sites.specs.Slots.{standing, SlotPlays, HasHappened, IsRefused, IsOver}
use Rattle.tp_world_sites.specs.declared.fault.WorldFault.{WorldFault}
use Rattle.tp_world_sites.specs.declared.site_slot.Entry.{Entry}
use Rattle.tp_world_sites.specs.declared.site_slot.SiteSlot.{SiteSlot}
use Rattle.tp_world_sites.proofs.Entered.{change_by}
use Rattle.tp_world_sites.proofs.Entries.{IsGained, has_gained, step_made}
use Rattle.tp_world_sites.proofs.Grown.{answered_legal}

-- ---- histories

-- a stop is accepted
crash_grown : (o : Origin) (up : Option Addr) (h : List EntryValue) → IsGrown o up h → IsGrown o up (crashed h)
unfolding refusal verdict
crash_grown o up h g = (refl, refl, tt, g)

pub stopped_legal : (n : Node) → IsLegal n.origin n.superior n.history → IsLegal n.origin n.superior (crashed n.history)
stopped_legal n l = record { start = l.start; grown = crash_grown n.origin n.superior n.history l.grown }

-- a declaration after a stop is not refused
not_refused : (who : Who) (o : Origin) (h : List EntryValue) (s : Option Addr) → answer_at who (digest o (crashed h)) (Event.Declare s) ≡ Happens None (action who (digest o (crashed h)) (Event.Declare s))
unfolding refusal verdict after_crash
not_refused who o h s = refl

no_record : (who : Who) (d : Digest) (s : Option Addr) → (action who d (Event.Declare s)).rec ≡ None
no_record who d s = refl

-- ---- what the site answers

pub record IsAgain (n : Node) (y : SiteSlot) (x : Entry) (z : SiteSlot) : Type 0 where
  pub entry : EntryValue
  pub legal : IsLegal n.origin n.superior (crashed n.history) → IsLegal n.origin n.superior (entry ∷ crashed n.history)
  pub node : record n { history = entry ∷ crashed n.history } ≡ restarted n
  pub change : x.change ≡ change_by (stopped n) entry
  pub known : (k : ℕ) → known_at z.site k ≡ cond (number_of n == k) (digest n.origin (restarted n).history) (known_at y.site k)
  pub site : IsSameSite y.site.nodes z.site.nodes
  pub keeper : z.site.keeper ≡ y.site.keeper
  pub unshut : z.site.shut ≡ None

module _ (n : Node) (y z : SiteSlot) (who : who_at y.site.nodes (number_of n) ≡ n.origin.who) (known : known_at y.site (number_of n) ≡ digest n.origin (crashed n.history)) where
  answer_again : answer_at (who_at y.site.nodes (number_of n)) (known_at y.site (number_of n)) (Event.Declare n.superior) ≡ Happens None (action n.origin.who (digest n.origin (crashed n.history)) (Event.Declare n.superior))
  answer_again =
      ap (λ (p : Who). answer_at p (known_at y.site (number_of n)) (Event.Declare n.superior)) who
      ∙ ap (λ (d : Digest). answer_at n.origin.who d (Event.Declare n.superior)) known
      ∙ not_refused n.origin.who n.origin n.history n.superior

  pub again : (refusal : Option Refusal) (x : Entry) → HasHappened y (number_of n) (Event.Declare n.superior) refusal x z → IsAgain n y x z
  again refusal x h =
      let m : Move = action n.origin.who (digest n.origin (crashed n.history)) (Event.Declare n.superior) in
      let same : Happens (number_in refusal) h.move ≡ Happens None m = sym h.played.answer ∙ answer_again in
      let move : h.move ≡ m = cc (same) in
      let g : IsGained n.origin (crashed n.history) (Event.Declare n.superior) None m = has_gained n.origin (crashed n.history) (Event.Declare n.superior) None m (not_refused n.origin.who n.origin n.history n.superior) in
      let next : h.move.next ≡ digest n.origin (g.entry ∷ crashed n.history) = ap (λ (v : Move). v.next) move ∙ sym g.next in
      let node : record n { history = g.entry ∷ crashed n.history } ≡ restarted n = ap (λ (e : Option EntryValue). record n { history = with_entry e (crashed n.history) }) (sym g.entry_is) in
      let self : (number_of n == number_of n) ≡ true = grind (arith, nat_tests) in
      let after : known_at z.site (number_of n) ≡ digest n.origin (g.entry ∷ crashed n.history) = h.played.known (number_of n) ∙ ap (λ (b : Bool). cond b h.move.next (known_at y.site (number_of n))) self ∙ next in
      record {
        entry = g.entry;
        legal = λ l. answered_legal n.origin n.superior (crashed n.history) (Event.Declare n.superior) g.entry refl l g.entry_is;
        node = node;
        change = h.change
            ∙ step_made (tree_in (known_at y.site (number_of n))) (tree_in (digest n.origin (crashed n.history))) (tree_in (known_at z.site (number_of n))) (tree_in (digest n.origin (g.entry ∷ crashed n.history)))
            (is_unchanged (Event.Declare n.superior)) (is_unchanged g.entry.event) (option_map log_shown h.move.rec) (option_map log_shown g.entry.rec)
            (ap tree_in known) (ap tree_in after) (sym g.leaves) (ap (λ (v : Move). option_map log_shown v.rec) move ∙ ap (option_map log_shown) (sym g.rec));
        known = λ k. h.played.known k ∙ ap (λ (d : Digest). cond (number_of n == k) d (known_at y.site k)) (next ∙ ap (λ (v : Node). digest n.origin v.history) node);
        site = h.played.site;
        keeper = subst (λ (r : Option LogRec). IsForced standing y.site.keeper r z.site.keeper) (ap (λ (v : Move). v.rec) move ∙ no_record n.origin.who (digest n.origin (crashed n.history)) n.superior) h.played.forced;
        unshut = h.played.open_after;
      }

  pub never_refused : (k : ℕ) → IsRefused y (number_of n) (Event.Declare n.superior) k z → ⊥
  never_refused k h = absurd (let clash = sym h.0 ∙ answer_again in cc (clash))

  -- it wants memory alone
  pub memory_alone : (f : WorldFault) → SlotPlays y (number_of n) (Event.Declare n.superior) (Err f) z → f ≡ WorldFault.NoMemory
  memory_alone WorldFault.Name h = absurd h
  memory_alone (WorldFault.Limit what) h = absurd (never h.1)
    where
      never : IsOver y (number_of n) (Event.Declare n.superior) z → ⊥
      never (size, full) =
          let m : Move = action n.origin.who (digest n.origin (crashed n.history)) (Event.Declare n.superior) in
          let none : IsUnforced standing y.site.keeper m.rec (force.Full size) z.site.keeper = subst (λ (a : Said). IsUnforced standing y.site.keeper (rec_of a) (force.Full size) z.site.keeper) answer_again full in
          subst (λ (r : Option LogRec). IsUnforced standing y.site.keeper r (force.Full size) z.site.keeper) (no_record n.origin.who (digest n.origin (crashed n.history)) n.superior) none
  memory_alone WorldFault.NoMemory h = refl
