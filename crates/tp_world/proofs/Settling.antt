-- What a node's answer gives, in the code and in the definitions.
use Rattle.std.proofs.Common.{◌≡◌, ◌<◌, ◌+◌, ◌++◌, ℕ, true, refl, ap, sym, subst, ◌∙◌, Option, Some, None, List, [], ◌∷◌, length, Result, Ok, Err, append_assoc}
use Rattle.std.specs.Option.{option_map}
use Rattle.std.proofs.lemmas.List.{length-append}
use Rattle.tp_logrec.specs.declared.record.LogRec.{LogRec}
use Rattle.tp_model.specs.declared.out_line.OutLine.{OutLine}
use Rattle.tp_model.specs.declared.verdict.What.{What}
use Rattle.tp_model.specs.Parts.{Out, Entry as EntryValue}
use Rattle.tp_model.specs.Legal.{IsLegal}
use Rattle.tp_model.specs.World.{World, Node, Frame, number_of, site_of, addr_of, find_node}
use Rattle.tp_model.specs.Happenings.{entry_turn, logged, log_lines, log_shown, refused_lines, out_lines, frames_of, after_lines, world_with_entry, WorldTurn}
use Rattle.tp_model.specs.Lines.{within_limits, is_full}
use Rattle.tp_world_sites.specs.Shown.{forced_lines}
use Rattle.tp_world.specs.Settled.{entry_lines, SettlesSome}
use Rattle.tp_world_sites.specs.Standing.{SitesStand, AreNodes, IsEntry, after_entry}
use Rattle.tp_world.specs.World.{Mirrors, Gives}
use Rattle.tp_world_sites.specs.Faults.{sending_fault}
use Rattle.tp_world_sites.specs.declared.fault.WorldFault.{WorldFault}
use Rattle.tp_network.specs.declared.fault.SendFault.{SendFault}
use Rattle.tp_network.specs.declared.tree_summary.TreeChange.{TreeChange}
use Rattle.tp_world_sites.specs.declared.site_slot.Entry.{Entry}
use Rattle.tp_world.specs.declared.world.World.{World as CodeWorld}
use Rattle.tp_world_sites.proofs.Entered.{change_by}
use Rattle.tp_world.proofs.EntryTurns.{IsBehind, turn_world, stands_behind, logged_frames}
use Rattle.tp_world.proofs.Limits.{not_full, within_all, within_frames, within_log, gives_ok, gives_limit}

forced_same : (site : List ℕ) (r : Option LogRec) → forced_lines site (option_map log_shown r) ≡ log_lines site r
forced_same site None = refl
forced_same site (Some r) = refl

-- the node has answered, and its site stands for the world after the entry, and nothing else has changed
pub record IsAnswered (w : World) (n : Node) (ent : Option EntryValue) (x : Option Entry) (old mid : CodeWorld) : Type 0 where
  pub stands : Mirrors w old
  pub found : find_node w.nodes (number_of n) ≡ Some n
  pub legal : (e : EntryValue) → ent ≡ Some e → IsLegal n.origin n.superior (e ∷ n.history)
  pub entry : IsEntry n ent x
  pub sites : SitesStand (after_entry w n ent) mid.sites.items
  pub nodes : mid.nodes ≡ old.nodes
  pub frames : mid.frames ≡ old.frames
  pub trees : mid.trees ≡ old.trees

stands_still : (w : World) (n : Node) (x : Option Entry) (old mid : CodeWorld) → IsAnswered w n None x old mid → Mirrors w mid
stands_still w n x old mid h =
    let r = h.stands.rest in
    record {
      sites = h.sites;
      rest = record {
        nodes = subst (λ l. AreNodes w.nodes l) (sym h.nodes) r.nodes;
        apart = r.apart;
        placed = r.placed;
        frames = h.frames ∙ r.frames;
        few = r.few;
        trees = ap (λ t. t.items) h.trees ∙ r.trees;
        undriven = r.undriven;
      };
    }

-- what is said of the run where a frame is not sent
abbrev pub told_by : Result (Unit {0}) SendFault → Result (Unit {0}) WorldFault
told_by (Ok u) = Ok u
told_by (Err f) = Err (sending_fault f)

-- ---- without an entry

none_gives : (w : World) (n : Node) (dl before first after : List OutLine) (number : Option ℕ) (r : Result (Unit {0}) SendFault) (old mid new : CodeWorld)
    → IsAnswered w n None None old mid → first ≡ before ++ dl → SettlesSome (addr_of n) None (first ++ ([] ++ refused_lines number)) r after mid new
    → Gives (within_limits (after_lines dl (entry_turn w n number None))) before (told_by r) after new
none_gives w n dl before first after number (Ok u) old mid new h e s =
    let t : WorldTurn = after_lines dl (entry_turn w n number None) in
    let now : Mirrors w mid = stands_still w n None old mid h in
    gives_ok (within_limits t) t before after new u (within_all t (not_full w.sites mid.sites.items now.sites.sites) now.rest.few)
    (s.1 ∙ ap (λ (l : List OutLine). l ++ refused_lines number) e ∙ append_assoc before dl (refused_lines number))
    (subst (λ (v : CodeWorld). Mirrors w v) (sym s.0) now)
none_gives w n dl before first after number (Err SendFault.Full) old mid new h e s = absurd s
none_gives w n dl before first after number (Err SendFault.NoMemory) old mid new h e s = tt

-- ---- with one

lines_same : (w : World) (n : Node) (e : EntryValue) (x : Entry) (dl before first : List OutLine) (number : Option ℕ) (mid : CodeWorld) → first ≡ before ++ dl → x.outs ≡ e.outs → x.change ≡ change_by n e → mid.frames ≡ w.frames
    → (first ++ (forced_lines (site_of n) x.change.rec ++ refused_lines number)) ++ out_lines (number_of n) (length mid.frames) x.outs
    ≡ before ++ (dl ++ ((log_lines (site_of n) e.rec ++ refused_lines number) ++ out_lines (number_of n) (length w.frames) e.outs))
lines_same w n e x dl before first number mid start outs step frames =
    let head : forced_lines (site_of n) x.change.rec ++ refused_lines number ≡ log_lines (site_of n) e.rec ++ refused_lines number =
    ap (λ (q : TreeChange). forced_lines (site_of n) q.rec ++ refused_lines number) step ∙ ap (λ (l : List OutLine). l ++ refused_lines number) (forced_same (site_of n) e.rec)
    in
    let tail : out_lines (number_of n) (length mid.frames) x.outs ≡ out_lines (number_of n) (length w.frames) e.outs =
    ap (λ (fs : List Frame). out_lines (number_of n) (length fs) x.outs) frames ∙ ap (out_lines (number_of n) (length w.frames)) outs
    in
    let a : List OutLine = log_lines (site_of n) e.rec ++ refused_lines number in
    let b : List OutLine = out_lines (number_of n) (length w.frames) e.outs in
    ap (λ (l : List OutLine). (l ++ (forced_lines (site_of n) x.change.rec ++ refused_lines number)) ++ out_lines (number_of n) (length mid.frames) x.outs) start
    ∙ ap (λ (l : List OutLine). ((before ++ dl) ++ l) ++ out_lines (number_of n) (length mid.frames) x.outs) head
    ∙ ap (λ (l : List OutLine). ((before ++ dl) ++ a) ++ l) tail
    ∙ append_assoc (before ++ dl) a b
    ∙ append_assoc before dl (a ++ b)

abbrev entry_behind : World → Node → Option ℕ → EntryValue → List OutLine → WorldTurn
entry_behind w n number e dl = after_lines dl (entry_turn w n number (Some e))

some_gives : (w : World) (n : Node) (e : EntryValue) (x : Entry) (dl before first after : List OutLine) (number : Option ℕ) (r : Result (Unit {0}) SendFault) (old mid new : CodeWorld)
    → IsAnswered w n (Some e) (Some x) old mid → first ≡ before ++ dl → SettlesSome (addr_of n) (Some x) (first ++ (forced_lines (site_of n) x.change.rec ++ refused_lines number)) r after mid new
    → Gives (within_limits (entry_behind w n number e dl)) before (told_by r) after new
some_gives w n e x dl before first after number (Ok u) old mid new h start s =
    let t : WorldTurn = entry_behind w n number e dl in
    let head : List OutLine = first ++ (forced_lines (site_of n) x.change.rec ++ refused_lines number) in
    let was : IsBehind w n e x head after old mid new = record {
      stands = h.stands;
      found = h.found;
      legal = h.legal e refl;
      outs = h.entry.0;
      change = h.entry.1;
      sites = h.sites;
      nodes = h.nodes;
      frames = h.frames;
      trees = h.trees;
      settled = s;
    } in
    let now : Mirrors (turn_world w n e) new = stands_behind w n e x head after old mid new was in
    gives_ok (within_limits t) t before after new u (within_all t (not_full t.world.sites new.sites.items now.sites.sites) now.rest.few)
    (s.lines ∙ lines_same w n e x dl before first number mid start h.entry.0 h.entry.1 (h.frames ∙ h.stands.rest.frames))
    now
some_gives w n e x dl before first after number (Err SendFault.Full) old mid new h start s =
    let t : WorldTurn = entry_behind w n number e dl in
    let v : World = logged (world_with_entry w n e) n e.rec in
    let fs : mid.frames ≡ v.frames = h.frames ∙ h.stands.rest.frames ∙ sym (logged_frames (world_with_entry w n e) n e.rec) in
    let count : length mid.frames + length (frames_of (addr_of n) x.outs) ≡ length (v.frames ++ frames_of (addr_of n) e.outs) =
    ap (λ (l : List Frame). length l + length (frames_of (addr_of n) x.outs)) fs
    ∙ ap (λ (l : List Out). length v.frames + length (frames_of (addr_of n) l)) h.entry.0
    ∙ sym (length-append v.frames (frames_of (addr_of n) e.outs))
    in
    let past : 65535 < length t.world.frames = subst (λ (k : ℕ). 65535 < k) count s in
    gives_limit (within_limits t) What.Frames before after new (within_frames t (not_full v.sites mid.sites.items h.sites.sites) past)
some_gives w n e x dl before first after number (Err SendFault.NoMemory) old mid new h start s = tt

pub answer_gives : (w : World) (n : Node) (ent : Option EntryValue) (x : Option Entry) (dl before first after : List OutLine) (number : Option ℕ) (r : Result (Unit {0}) SendFault) (old mid new : CodeWorld)
    → IsAnswered w n ent x old mid → first ≡ before ++ dl → SettlesSome (addr_of n) x (first ++ (entry_lines (site_of n) x ++ refused_lines number)) r after mid new
    → Gives (within_limits (after_lines dl (entry_turn w n number ent))) before (told_by r) after new
answer_gives w n None None dl before first after number r old mid new h start s = none_gives w n dl before first after number r old mid new h start s
answer_gives w n None (Some x) dl before first after number r old mid new h start s = absurd h.entry
answer_gives w n (Some e) None dl before first after number r old mid new h start s = absurd h.entry
answer_gives w n (Some e) (Some x) dl before first after number r old mid new h start s = some_gives w n e x dl before first after number r old mid new h start s

-- ---- a want of room in the log

pub log_gives : (w : World) (n : Node) (ent : Option EntryValue) (dl before after : List OutLine) (number : Option ℕ) (new : CodeWorld) → is_full (after_entry w n ent).sites ≡ true
    → Gives (within_limits (after_lines dl (entry_turn w n number ent))) before (Err (WorldFault.Limit What.Log)) after new
log_gives w n None dl before after number new h = let t : WorldTurn = after_lines dl (entry_turn w n number None) in gives_limit (within_limits t) What.Log before after new (within_log t h)
log_gives w n (Some e) dl before after number new h = let t : WorldTurn = after_lines dl (entry_turn w n number (Some e)) in gives_limit (within_limits t) What.Log before after new (within_log t h)
