-- A round of recovery: a node retries, another one takes what it says, and the first one takes the answer. What that makes of a world.
use Rattle.std.proofs.Common.{length-append, ◌≡◌, ℕ, ◌≤◌, ◌<◌, ◌+◌, Bool, true, false, refl, ap, sym, subst, ◌∙◌, arith, Some, None, List, ◌∷◌, ◌==◌, length}
use Rattle.std.proofs.lemmas.Bool.Decides.{nat_tests}
use Rattle.tp_names.specs.declared.identifiers.Addr.{Addr}
use Rattle.tp_records.specs.declared.peer.PeerRecord.{PeerRecord}
use Rattle.tp_model.specs.declared.line.Action.{Action}
use Rattle.tp_model.specs.Parts.{Event, Digest}
use Rattle.tp_model.specs.Events.{refusal, action, retry, is_no_node}
use Rattle.tp_model.specs.History.{entry_of}
use Rattle.tp_model.specs.World.{World, Node, number_of, addr_of, find_node}
use Rattle.tp_model.specs.Happenings.{Happening, Does, frames_of, run}
use Rattle.tp_model.specs.Promises.{IsIn}
use Rattle.tp_histories.specs.Histories.{IsSentIn}
use Rattle.tp_histories.specs.Worlds.{IsGood, grown_node}
use Rattle.tp_histories.proofs.trees.Late.{late_law}
use Rattle.tp_histories.proofs.worlds.Good.{good_run}
use Rattle.tp_histories.proofs.worlds.Nodes.{find_is}
use Rattle.tp_steps.proofs.lemmas.Options.{some_same}
use Rattle.tp_finishing.specs.Doubt.{known_of}
use Rattle.tp_finishing.specs.Quiet.{IsQuietAt, IsQuiet}
use Rattle.tp_finishing.specs.Finishing.{lines_at, most_lines}
use Rattle.tp_finishing.proofs.Costs.{cost_put}
use Rattle.tp_finishing.proofs.Deliveries.{Takes, does_take, task_here, NewFrame, new_frame, task_again, taken_here, taken_there}
use Rattle.tp_finishing.proofs.Retries.{retry_same, retry_taken}

-- ---- one line

pub frames_grow : (w v : World) (x : Node) (e : Event) → Takes w x e v → length w.frames ≤ length v.frames
frames_grow w v x e t = let more = length-append w.frames (frames_of (addr_of x) (entry_of x.origin x.history e).outs) in omega (arith, ap length t.frames, more)

pub takes_cost : (w v : World) (x : Node) (e : Event) → IsIn w x → Takes w x e v → most_lines v.nodes + lines_at (known_of x) ≡ most_lines w.nodes + lines_at (known_of (grown_node x e))
takes_cost w v x e here t = ap (λ (ns : List Node). most_lines ns + lines_at (known_of x)) t.nodes ∙ cost_put w.nodes x (grown_node x e) here

-- each node but those with these numbers is as it was
abbrev pub AreAsBefore : World → World → ℕ → ℕ → Type 0
AreAsBefore w v m n = (k : ℕ) → (m == k) ≡ false → (n == k) ≡ false → find_node v.nodes k ≡ find_node w.nodes k

pub swap : (m n : ℕ) → (m == n) ≡ false → (n == m) ≡ false
swap m n h = grind (arith, nat_tests, h)

-- ---- a round

pub record Round (es : List Happening) (x y : Node) (d1 d2 : Digest) : Type 0 where
  pub asks : ℕ
  pub answers : ℕ
  pub asks_new : length (run es).frames < asks
  pub answers_new : length (run es).frames < answers
  pub first : Node
  pub first_here : find_node (run (Does (Action.Again answers) ∷ Does (Action.Again asks) ∷ Does (Action.Retry (number_of x)) ∷ es)).nodes (number_of x) ≡ Some first
  pub first_origin : first.origin ≡ x.origin
  pub first_is : known_of first ≡ d2
  pub second : Node
  pub second_here : find_node (run (Does (Action.Again answers) ∷ Does (Action.Again asks) ∷ Does (Action.Retry (number_of x)) ∷ es)).nodes (number_of y) ≡ Some second
  pub second_is : known_of second ≡ d1
  pub others : AreAsBefore (run es) (run (Does (Action.Again answers) ∷ Does (Action.Again asks) ∷ Does (Action.Retry (number_of x)) ∷ es)) (number_of x) (number_of y)
  pub costs : most_lines (run (Does (Action.Again answers) ∷ Does (Action.Again asks) ∷ Does (Action.Retry (number_of x)) ∷ es)).nodes + lines_at (known_of x) + lines_at (known_of y) ≡ most_lines (run es).nodes + lines_at d2 + lines_at d1

-- what is said, and what is answered
pub record Asks (es : List Happening) (x y : Node) (d1 d2 : Digest) : Type 0 where
  pub here : IsIn (run es) x
  pub there : IsIn (run es) y
  pub apart : (number_of x == number_of y) ≡ false
  pub node : is_no_node (known_of x) ≡ false
  pub question : PeerRecord
  pub to : Addr
  pub to_is : to.node ≡ number_of y
  pub said : IsSentIn (retry x.origin.who (known_of x)).outs to question
  pub taken : refusal y.origin.who (known_of y) (Event.Arrive (addr_of x) question) ≡ None
  pub answer : PeerRecord
  pub answered : IsSentIn (action y.origin.who (known_of y) (Event.Arrive (addr_of x) question)).outs (addr_of x) answer
  pub after : (action y.origin.who (known_of y) (Event.Arrive (addr_of x) question)).next ≡ d1
  pub heard : refusal x.origin.who (known_of x) (Event.Arrive (addr_of y) answer) ≡ None
  pub last : (action x.origin.who (known_of x) (Event.Arrive (addr_of y) answer)).next ≡ d2

later : (a b n : ℕ) → a ≤ b → b < n → a < n
later a b n h i = omega (arith, h, i)

total : (v0 v1 v2 v3 x x1 x2 y y1 : ℕ) → v1 + x ≡ v0 + x1 → x1 ≡ x → v2 + y ≡ v1 + y1 → v3 + x1 ≡ v2 + x2 → v3 + x + y ≡ v0 + x2 + y1
total v0 v1 v2 v3 x x1 x2 y y1 h i j k = omega (arith, h, i, j, k)

pub round : (es : List Happening) (x y : Node) (d1 d2 : Digest) → Asks es x y d1 d2 → Round es x y d1 d2
round es x y d1 d2 a = record {
  asks = question.number;
  answers = reply.number;
  asks_new = question.new;
  answers_new = later (length (run es).frames) (length (run es1).frames) reply.number (frames_grow (run es) (run es1) x Event.Retry retried) reply.new;
  first = grown_node x1 heard;
  first_here = taken_here (run es2) (run es3) x1 heard here2 ended;
  first_origin = refl;
  first_is = ap (λ (d : Digest). (action x.origin.who d heard).next) same ∙ a.last;
  second = grown_node y asked;
  second_here = taken_there (run es2) (run es3) x1 heard (number_of y) here2 ended a.apart ∙ taken_here (run es1) (run es2) y asked there1 took;
  second_is = a.after;
  others = λ k i j. taken_there (run es2) (run es3) x1 heard k here2 ended i ∙ taken_there (run es1) (run es2) y asked k there1 took j ∙ taken_there (run es) (run es1) x Event.Retry k a.here retried i;
  costs =
      total (most_lines (run es).nodes) (most_lines (run es1).nodes) (most_lines (run es2).nodes) (most_lines (run es3).nodes) (lines_at (known_of x)) (lines_at (known_of x1)) (lines_at (known_of (grown_node x1 heard))) (lines_at (known_of y)) (lines_at (known_of (grown_node y asked)))
      (takes_cost (run es) (run es1) x Event.Retry a.here retried) (ap lines_at same) (takes_cost (run es1) (run es2) y asked there1 took) (takes_cost (run es2) (run es3) x1 heard here2 ended)
      ∙ ap (λ (d : Digest). most_lines (run es).nodes + lines_at d + lines_at (known_of (grown_node y asked))) (ap (λ (d : Digest). (action x.origin.who d heard).next) same ∙ a.last)
      ∙ ap (λ (d : Digest). most_lines (run es).nodes + lines_at d2 + lines_at d) a.after;
}
  where
    good : IsGood (run es).nodes (run es).frames
    good = good_run es

    -- the retry
    es1 : List Happening
    es1 = Does (Action.Retry (number_of x)) ∷ es

    retried : Takes (run es) x Event.Retry (run es1)
    retried = does_take (run es) (Action.Retry (number_of x)) x Event.Retry (task_here (run es) x Event.Retry a.here) (retry_taken x.origin.who (known_of x) a.to a.question a.node a.said)

    x1 : Node
    x1 = grown_node x Event.Retry

    same : known_of x1 ≡ known_of x
    same = retry_same x.origin.who (known_of x) (late_law x.origin x.superior x.history (good.legal (number_of x) x a.here))

    here1 : find_node (run es1).nodes (number_of x) ≡ Some x1
    here1 = taken_here (run es) (run es1) x Event.Retry a.here retried

    there1 : find_node (run es1).nodes (number_of y) ≡ Some y
    there1 = taken_there (run es) (run es1) x Event.Retry (number_of y) a.here retried a.apart ∙ a.there

    question : NewFrame (length (run es).frames) (run es1).frames (addr_of x) a.to a.question
    question = new_frame (run es) (run es1) x Event.Retry a.to a.question retried a.said

    -- the question is delivered
    asked : Event
    asked = Event.Arrive (addr_of x) a.question

    es2 : List Happening
    es2 = Does (Action.Again question.number) ∷ es1

    took : Takes (run es1) y asked (run es2)
    took = does_take (run es1) (Action.Again question.number) y asked (task_again (run es1) (length (run es).frames) (addr_of x) a.question a.to y question a.to_is there1) a.taken

    here2 : find_node (run es2).nodes (number_of x) ≡ Some x1
    here2 = taken_there (run es1) (run es2) y asked (number_of x) there1 took (swap (number_of x) (number_of y) a.apart) ∙ here1

    reply : NewFrame (length (run es1).frames) (run es2).frames (addr_of y) (addr_of x) a.answer
    reply = new_frame (run es1) (run es2) y asked (addr_of x) a.answer took a.answered

    -- and the answer
    heard : Event
    heard = Event.Arrive (addr_of y) a.answer

    es3 : List Happening
    es3 = Does (Action.Again reply.number) ∷ es2

    ended : Takes (run es2) x1 heard (run es3)
    ended =
        does_take (run es2) (Action.Again reply.number) x1 heard (task_again (run es2) (length (run es1).frames) (addr_of y) a.answer (addr_of x) x1 reply refl here2)
        (ap (λ (d : Digest). refusal x.origin.who d heard) same ∙ a.heard)

-- ---- quiet worlds

-- but for that node
abbrev pub IsQuietBut : World → ℕ → Type 0
IsQuietBut w n = (k : ℕ) (z : Node) → find_node w.nodes k ≡ Some z → (n == k) ≡ false → IsQuietAt (known_of z)

pub quiet_with : (w : World) (n : ℕ) (x : Node) → IsQuietBut w n → find_node w.nodes n ≡ Some x → IsQuietAt (known_of x) → IsQuiet w
quiet_with w n x others here own z at = go (n == number_of z) refl
  where
    go : (b : Bool) → (n == number_of z) ≡ b → IsQuietAt (known_of z)
    go false i = others (number_of z) z at i
    go true i = let same : n ≡ number_of z = grind (arith, nat_tests, i) in subst (λ (u : Node). IsQuietAt (known_of u)) (some_same x z (sym here ∙ ap (find_node w.nodes) same ∙ at)) own

pub quiet_at : (w : World) (k : ℕ) (z : Node) → IsQuiet w → find_node w.nodes k ≡ Some z → IsQuietAt (known_of z)
quiet_at w k z quiet here = quiet z (ap (find_node w.nodes) (find_is w.nodes k z here) ∙ here)

pub round_quiet : (es : List Happening) (x y : Node) (d1 d2 : Digest) → (r : Round es x y d1 d2) → IsQuiet (run es) → IsQuietAt d1 → IsQuietBut (run (Does (Action.Again r.answers) ∷ Does (Action.Again r.asks) ∷ Does (Action.Retry (number_of x)) ∷ es)) (number_of x)
round_quiet es x y d1 d2 r quiet own k z here other = go (number_of y == k) refl
  where
    v : World
    v = run (Does (Action.Again r.answers) ∷ Does (Action.Again r.asks) ∷ Does (Action.Retry (number_of x)) ∷ es)

    go : (b : Bool) → (number_of y == k) ≡ b → IsQuietAt (known_of z)
    go false i = quiet_at (run es) k z quiet (sym (r.others k other i) ∙ here)
    go true i =
        let same : number_of y ≡ k = grind (arith, nat_tests, i) in
        subst (λ (u : Node). IsQuietAt (known_of u)) (some_same r.second z (sym r.second_here ∙ ap (find_node v.nodes) same ∙ here)) (subst IsQuietAt (sym r.second_is) own)
