-- What a world's limits say of a turn.
use Rattle.std.proofs.Common.{◌≡◌, ◌≤◌, ◌<◌, ◌++◌, ◌||◌, Bool, true, false, refl, ap, sym, subst, ◌∙◌, arith, List, [], ◌∷◌, Result, Ok, Err, length}
use Rattle.std.proofs.lemmas.Bool.Decides.{nat_tests}
use Rattle.std.specs.Prelude.{nat_lt}
use Rattle.tp_model.specs.declared.out_line.OutLine.{OutLine}
use Rattle.tp_model.specs.declared.verdict.What.{What}
use Rattle.tp_model.specs.World.{World, Site, Frame}
use Rattle.tp_model.specs.Happenings.{WorldTurn}
use Rattle.tp_model.specs.Lines.{Fault, Name, Over, is_full, within_limits}
use Rattle.tp_names.specs.declared.identifiers.Aaid.{Aaid}
use Rattle.tp_network.specs.declared.nodes.NodeSlot.{NodeSlot}
use Rattle.tp_world_sites.specs.Sites.{AreSites}
use Rattle.tp_world_sites.specs.Standing.{SitesStand, RestStands}
use Rattle.tp_world.specs.World.{Mirrors, Gives}
use Rattle.tp_world_sites.specs.declared.fault.WorldFault.{WorldFault}
use Rattle.tp_world_sites.specs.declared.site_slot.SiteSlot.{SiteSlot}
use Rattle.tp_world.specs.declared.world.World.{World as CodeWorld}

pub not_full : (ss : List Site) (xs : List SiteSlot) → AreSites ss xs → is_full ss ≡ false
not_full [] xs h = refl
not_full (s ∷ ss) [] h = absurd h
not_full (s ∷ ss) (x ∷ xs) h = ap (λ (b : Bool). b || is_full ss) h.0.log.room ∙ not_full ss xs h.1

abbrev frames_judged : Bool → WorldTurn → Result WorldTurn Fault
frames_judged b t = elim b [ true ↦ Err (Over What.Frames) | false ↦ Ok t ]

abbrev judged : Bool → WorldTurn → Result WorldTurn Fault
judged b t = elim b [ true ↦ Err (Over What.Log) | false ↦ frames_judged (nat_lt 65535 (length t.world.frames)) t ]

pub within_log : (t : WorldTurn) → is_full t.world.sites ≡ true → within_limits t ≡ Err (Over What.Log)
within_log t h = ap (λ (b : Bool). judged b t) h

pub within_frames : (t : WorldTurn) → is_full t.world.sites ≡ false → 65535 < length t.world.frames → within_limits t ≡ Err (Over What.Frames)
within_frames t h more = let past : nat_lt 65535 (length t.world.frames) ≡ true = grind (arith, nat_tests) in ap (λ (b : Bool). judged b t) h ∙ ap (λ (b : Bool). frames_judged b t) past

pub within_all : (t : WorldTurn) → is_full t.world.sites ≡ false → length t.world.frames ≤ 65535 → within_limits t ≡ Ok t
within_all t h few = let in_range : nat_lt 65535 (length t.world.frames) ≡ false = grind (arith, nat_tests) in ap (λ (b : Bool). judged b t) h ∙ ap (λ (b : Bool). frames_judged b t) in_range

-- ---- what is given, where the turn or its fault is known

pub gives_ok : (r : Result WorldTurn Fault) (t : WorldTurn) (before after : List OutLine) (v : CodeWorld) (u : Unit {0}) → r ≡ Ok t → after ≡ before ++ t.lines → Mirrors t.world v → Gives r before (Ok u) after v
gives_ok r t before after v u e lines h = subst (λ (q : Result WorldTurn Fault). Gives q before (Ok u) after v) (sym e) (lines, h)

pub gives_limit : (r : Result WorldTurn Fault) (what : What) (before after : List OutLine) (v : CodeWorld) → r ≡ Err (Over what) → Gives r before (Err (WorldFault.Limit what)) after v
gives_limit r what before after v e = subst (λ (q : Result WorldTurn Fault). Gives q before (Err (WorldFault.Limit what)) after v) (sym e) refl

pub gives_name : (r : Result WorldTurn Fault) (before after : List OutLine) (v : CodeWorld) → r ≡ Err Name → Gives r before (Err WorldFault.Name) after v
gives_name r before after v e = subst (λ (q : Result WorldTurn Fault). Gives q before (Err WorldFault.Name) after v) (sym e) refl

-- and back
pub record Given (r : Result WorldTurn Fault) (before after : List OutLine) (v : CodeWorld) : Type 0 where
  pub turn : WorldTurn
  pub is : r ≡ Ok turn
  pub lines : after ≡ before ++ turn.lines
  pub stands : Mirrors turn.world v

pub given : (r : Result WorldTurn Fault) (before after : List OutLine) (v : CodeWorld) (u : Unit {0}) → Gives r before (Ok u) after v → Given r before after v
given (Ok t) before after v u h = record { turn = t; is = refl; lines = h.0; stands = h.1 }
given (Err f) before after v u h = absurd h

-- ---- what stands in the memory beside the world does not matter

pub record IsSameWorld (v x : CodeWorld) : Type 0 where
  pub sites : x.sites.items ≡ v.sites.items
  pub nodes : x.nodes ≡ v.nodes
  pub frames : x.frames ≡ v.frames
  pub trees : x.trees.items ≡ v.trees.items

pub same_mirrors : (w : World) (v x : CodeWorld) → IsSameWorld v x → Mirrors w v → Mirrors w x
same_mirrors w v x s h = record {
  sites = subst (SitesStand w) (sym s.sites) h.sites;
  rest = subst (λ (ts : List Aaid). RestStands w x.nodes x.frames ts) (sym s.trees)
      (subst (λ (fs : List Frame). RestStands w x.nodes fs v.trees.items) (sym s.frames)
      (subst (λ (ns : List NodeSlot). RestStands w ns v.frames v.trees.items) (sym s.nodes) h.rest));
}

pub same_gives : (r : Result WorldTurn Fault) (before after : List OutLine) (q : Result (Unit {0}) WorldFault) (v : CodeWorld) {x : CodeWorld} → IsSameWorld v x → Gives r before q after v → Gives r before q after x
same_gives r before after (Err WorldFault.NoMemory) v s h = tt
same_gives (Ok t) before after (Ok u) v s h = (h.0, same_mirrors t.world v _ s h.1)
same_gives (Ok t) before after (Err WorldFault.Name) v s h = absurd h
same_gives (Ok t) before after (Err (WorldFault.Limit what)) v s h = absurd h
same_gives (Err f) before after (Ok u) v s h = absurd h
same_gives (Err f) before after (Err WorldFault.Name) v s h = h
same_gives (Err f) before after (Err (WorldFault.Limit what)) v s h = h
