-- A lane, one event further, and the outputs of one event more.
use Rattle.std.proofs.Common.{◌≡◌, ◌≢◌, ℕ, ◌+◌, ◌%◌, ◌==◌, ◌<◌, Bool, true, false, List, [], ◌∷◌, ◌++◌, take, drop, get_or, length, refl, ap, sym, ◌∙◌, arith}
use Rattle.std.proofs.lemmas.Bool.Decides.{nat_tests}
use Rattle.std.proofs.lemmas.List.{take_more, drop_more, get_or_read}
use Rattle.tp_records.specs.declared.body.Event.{Event as Given}
use Rattle.tp_records.specs.declared.body.Output.{Output}
use Rattle.tp_model.specs.NodeRun.{node_of}
use Rattle.tp_model.specs.Lanes.{lane, outputs_in}
use Rattle.tp_runs.proofs.Lanes.{lane_mine, lane_other}
use Rattle.tp_site.specs.Resume.{is_in_lane}

pub lane-append : (i w : ℕ) (gs hs : List Given) → lane (gs ++ hs) i w ≡ lane gs i w ++ lane hs i w
lane-append i w [] hs = refl
lane-append i w (g ∷ gs) hs = go (node_of g % w == i) refl (lane-append i w gs hs)
  where
    go : (b : Bool) → (node_of g % w == i) ≡ b → lane (gs ++ hs) i w ≡ lane gs i w ++ lane hs i w → lane ((g ∷ gs) ++ hs) i w ≡ lane (g ∷ gs) i w ++ lane hs i w
    go true h rest = lane_mine g (gs ++ hs) i w h ∙ ap (λ (l : List Given). g ∷ l) rest ∙ ap (λ (l : List Given). l ++ lane hs i w) (sym (lane_mine g gs i w h))
    go false h rest = lane_other g (gs ++ hs) i w h ∙ rest ∙ ap (λ (l : List Given). l ++ lane hs i w) (sym (lane_other g gs i w h))

-- a worker meets an event of its own
pub met_own : (i w : ℕ) (gs : List Given) (k : ℕ) (d : Given) → k < length gs → node_of (get_or gs k d) % w ≡ i → lane (take (k + 1) gs) i w ≡ lane (take k gs) i w ++ get_or gs k d ∷ []
met_own i w gs k d h own =
    let yes : (node_of (get_or gs k d) % w == i) ≡ true = grind (arith, nat_tests, own) in
    ap (λ (l : List Given). lane l i w) (take_more gs k d h)
    ∙ lane-append i w (take k gs) (get_or gs k d ∷ [])
    ∙ ap (λ (l : List Given). lane (take k gs) i w ++ l) (lane_mine (get_or gs k d) [] i w yes)

no_more : (l : List Given) → l ++ [] ≡ l
no_more [] = refl
no_more (g ∷ l) = ap (λ (m : List Given). g ∷ m) (no_more l)

-- a worker meets an event of another
pub met_other : (i w : ℕ) (gs : List Given) (k : ℕ) (d : Given) → k < length gs → node_of (get_or gs k d) % w ≢ i → lane (take (k + 1) gs) i w ≡ lane (take k gs) i w
met_other i w gs k d h other =
    let no : (node_of (get_or gs k d) % w == i) ≡ false = grind (arith, nat_tests, other) in
    ap (λ (l : List Given). lane l i w) (take_more gs k d h)
    ∙ lane-append i w (take k gs) (get_or gs k d ∷ [])
    ∙ ap (λ (l : List Given). lane (take k gs) i w ++ l) (lane_other (get_or gs k d) [] i w no)
    ∙ no_more (lane (take k gs) i w)

-- ---- of one item for each event, those of a lane

outs_mine : (i w : ℕ) (g : Given) (gs : List Given) (x : List Output) (xs : List (List Output)) → (node_of g % w == i) ≡ true → outputs_in i w (g ∷ gs) (x ∷ xs) ≡ x ∷ outputs_in i w gs xs
outs_mine i w g gs x xs h = rw (h, outputs_in) refl

outs_other : (i w : ℕ) (g : Given) (gs : List Given) (x : List Output) (xs : List (List Output)) → (node_of g % w == i) ≡ false → outputs_in i w (g ∷ gs) (x ∷ xs) ≡ outputs_in i w gs xs
outs_other i w g gs x xs h = rw (h, outputs_in) refl

outs_more : (i w : ℕ) (gs : List Given) (xs : List (List Output)) (k : ℕ) (d : Given) (a : List Output) → k < length gs → k < length xs
    → outputs_in i w (drop k gs) (drop k xs) ≡ outputs_in i w (get_or gs k d ∷ drop (k + 1) gs) (get_or xs k a ∷ drop (k + 1) xs)
outs_more i w gs xs k d a h h' =
    ap (λ (l : List Given). outputs_in i w l (drop k xs)) (drop_more gs k d h) ∙ ap (λ (l : List (List Output)). outputs_in i w (get_or gs k d ∷ drop (k + 1) gs) l) (drop_more xs k a h')

-- the lane of the event has its item first
pub outs_own : (i w : ℕ) (gs : List Given) (xs : List (List Output)) (k : ℕ) (d : Given) (a : List Output) → k < length gs → k < length xs → i ≡ node_of (get_or gs k d) % w
    → outputs_in i w (drop k gs) (drop k xs) ≡ get_or xs k a ∷ outputs_in i w (drop (k + 1) gs) (drop (k + 1) xs)
outs_own i w gs xs k d a h h' own =
    let yes : (node_of (get_or gs k d) % w == i) ≡ true = grind (arith, nat_tests, own) in
    outs_more i w gs xs k d a h h' ∙ outs_mine i w (get_or gs k d) (drop (k + 1) gs) (get_or xs k a) (drop (k + 1) xs) yes

-- every other lane has not
pub outs_apart : (i w : ℕ) (gs : List Given) (xs : List (List Output)) (k : ℕ) (d : Given) (a : List Output) → k < length gs → k < length xs → i ≢ node_of (get_or gs k d) % w
    → outputs_in i w (drop k gs) (drop k xs) ≡ outputs_in i w (drop (k + 1) gs) (drop (k + 1) xs)
outs_apart i w gs xs k d a h h' other =
    let no : (node_of (get_or gs k d) % w == i) ≡ false = grind (arith, nat_tests, other) in
    outs_more i w gs xs k d a h h' ∙ outs_other i w (get_or gs k d) (drop (k + 1) gs) (get_or xs k a) (drop (k + 1) xs) no

-- ---- an event that is read of the list

-- reads at one place give one event
pub read_same : (gs : List Given) (k : ℕ) (e f : Given) → k < length gs → e ≡ get_or gs k e → f ≡ get_or gs k f → e ≡ f
read_same gs k e f h is is' = get_or_read gs k e h is f ∙ sym is'

pub mine_of : (i w : ℕ) (e : Given) → node_of e % w ≡ i → is_in_lane i w (node_of e) ≡ true
mine_of i w e own = grind (arith, nat_tests, own)

pub meets_own : (i w : ℕ) (gs : List Given) (k : ℕ) (e : Given) → k < length gs → e ≡ get_or gs k e → node_of e % w ≡ i → lane (take (k + 1) gs) i w ≡ lane (take k gs) i w ++ e ∷ []
meets_own i w gs k e h is own = met_own i w gs k e h (ap (λ x. node_of x % w) (sym is) ∙ own) ∙ ap (λ x. lane (take k gs) i w ++ x ∷ []) (sym is)

pub meets_other : (i w : ℕ) (gs : List Given) (k : ℕ) (e : Given) → k < length gs → e ≡ get_or gs k e → node_of e % w ≢ i → lane (take (k + 1) gs) i w ≡ lane (take k gs) i w
meets_other i w gs k e h is other = met_other i w gs k e h (λ own. other (ap (λ x. node_of x % w) is ∙ own))
