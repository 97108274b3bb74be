-- In every legal history an event reaches the current transaction in the order that the transaction asks for.
use Rattle.std.proofs.Common.{◌≡◌, inl, inr, ℕ, true, ap, sym, ◌∙◌, Option, Some, None, List}
use Rattle.tp_names.specs.declared.identifiers.Addr.{Addr}
use Rattle.tp_model.specs.Parts.{Origin, Event, Entry, Current, Digest}
use Rattle.tp_model.specs.Arcs.{is_live_with_peer}
use Rattle.tp_model.specs.Node.{is_superior}
use Rattle.tp_model.specs.History.{digest, refuse}
use Rattle.tp_model.specs.Questions.{is_at}
use Rattle.tp_model.specs.Legal.{IsGrown, IsLegal}
use Rattle.tp_model.specs.Happenings.{Happening, run}
use Rattle.tp_model.specs.World.{Node, number_of}
use Rattle.tp_model.specs.Promises.{IsIn}
use Rattle.tp_model.specs.AmongArcs.{IsAmongArcs}
use Rattle.tp_histories.specs.Arcs.{finds_apart}
use Rattle.tp_steps.specs.Puts.{Put, put_by, IsPutTo}
use Rattle.tp_histories.specs.Puts.{IsLeftAlone}
use Rattle.tp_histories.proofs.worlds.Good.{good_run}
use Rattle.tp_histories.proofs.worlds.Starts.{all_legal}
use Rattle.tp_histories.proofs.trees.Late.{late_law}
use Rattle.tp_histories.proofs.order.InOrderLaw.{among_law, empty_apart}
use Rattle.tp_histories.proofs.order.Headed.{IsPlaced, superior_at, under_headed, none_below, placed_law, headed_law}
use Rattle.tp_steps.proofs.order.PutTo.{IsKnown, event_put}
use Rattle.tp_histories.proofs.order.LeftAlone.{event_alone}

-- ---- what is known after a legal history

above_live : (up : Option Addr) (d : Digest) (p : ℕ) → IsPlaced up d → is_live_with_peer d.arcs p ≡ true → is_superior d p ≡ is_at up p
above_live up d p (inl s) live = superior_at d p ∙ ap (λ o. is_at o p) s
above_live up d p (inr n) live = absurd (cc (live, n p))

known_law : (o : Origin) (up : Option Addr) (h : List Entry) (c : Current) → IsLegal o up h → finds_apart o ≡ true → (digest o h).current ≡ Some c → IsKnown (digest o h) c
known_law o up h c legal apart i =
    let among : IsAmongArcs (digest o h).arcs c = among_law o up h c legal apart i in
    let placed : IsPlaced up (digest o h) = placed_law o up h legal.grown in
    let headed = headed_law o up h legal.grown c i in
    record {
      late = among.current;
      apart = among.apart;
      key = λ on p live under. above_live up (digest o h) p placed live ∙ under_headed up c.key p (headed on).0 under;
      rows = λ on p live above. none_below up c.branches p (headed on).1 (sym (above_live up (digest o h) p placed live) ∙ above);
    }

pub put_law : (o : Origin) (up : Option Addr) (h : List Entry) (e : Event) (c : Current) (x : Put) → IsLegal o up h → finds_apart o ≡ true → refuse o h e ≡ None → (digest o h).current ≡ Some c → put_by o.who (digest o h) e ≡ Some x
    → IsPutTo o.who (digest o h) e c x
put_law o up h e c x legal apart ok i is = event_put o.who (digest o h) e c x ok i (known_law o up h c legal apart i) is

pub alone_law : (o : Origin) (up : Option Addr) (h : List Entry) (e : Event) (c : Current) → IsGrown o up h → refuse o h e ≡ None → (digest o h).current ≡ Some c → put_by o.who (digest o h) e ≡ None → IsLeftAlone o.who (digest o h) e c
alone_law o up h e c legal ok i none = event_alone o.who (digest o h) e c ok i (late_law o up h legal c i) none

-- ---- every run

pub run_put : (es : List Happening) (x : Node) (e : Event) (c : Current) (y : Put) → IsIn (run es) x → refuse x.origin x.history e ≡ None → (digest x.origin x.history).current ≡ Some c
    → put_by x.origin.who (digest x.origin x.history) e ≡ Some y → IsPutTo x.origin.who (digest x.origin x.history) e c y
run_put es x e c y here ok i is =
    put_law x.origin x.superior x.history e c y (all_legal es x here) (empty_apart x.origin ((good_run es).fresh (number_of x) x here)) ok i is
