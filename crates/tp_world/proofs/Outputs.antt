-- Outputs given one after another.
use Rattle.std.proofs.Common.{◌≡◌, ◌≤◌, ◌<◌, ◌+◌, ◌++◌, suc, refl, ap, sym, ◌∙◌, arith, List, [], ◌∷◌, length, Err, append_assoc}
use Rattle.std.proofs.lemmas.List.{append-nil, length-append}
use Rattle.tp_names.specs.declared.identifiers.Addr.{Addr}
use Rattle.tp_model.specs.declared.out_line.OutLine.{OutLine}
use Rattle.tp_model.specs.Parts.{Out}
use Rattle.tp_model.specs.World.{Frame}
use Rattle.tp_model.specs.Happenings.{out_lines, frames_of}
use Rattle.tp_world.specs.Settled.{AreGiven, GivesOuts}
use Rattle.tp_network.specs.declared.fault.SendFault.{SendFault}
use Rattle.tp_world.specs.declared.world.World.{World as CodeWorld}

-- one, and then the rest
frames_then : (from : Addr) (o : Out) (outs : List Out) → frames_of from (o ∷ outs) ≡ frames_of from (o ∷ []) ++ frames_of from outs
frames_then from (Out.Tell i) outs = refl
frames_then from (Out.Send to r) outs = refl

lines_then : (from : Addr) (o : Out) (outs : List Out) (fs : List Frame)
    → out_lines from.node (length fs) (o ∷ outs) ≡ out_lines from.node (length fs) (o ∷ []) ++ out_lines from.node (length (fs ++ frames_of from (o ∷ []))) outs
lines_then from (Out.Tell i) outs fs = ap (λ (l : List Frame). OutLine.Tell from.node i ∷ out_lines from.node (length l) outs) (sym (append-nil fs))
lines_then from (Out.Send to r) outs fs =
    let one : suc (length fs) ≡ length (fs ++ frames_of from (Out.Send to r ∷ [])) = omega (arith, length-append fs (frames_of from (Out.Send to r ∷ []))) in
    grind (arith, one)

-- nothing is given yet
pub given_none : (from : Addr) (lines : List OutLine) (v : CodeWorld) → AreGiven from [] lines lines v v
given_none from lines v = record { lines = sym (append-nil lines); frames = sym (append-nil v.frames); few = λ h. h; nodes = refl; sites = refl; trees = refl }

-- ---- a loop over outputs: those that are left, and what has been given

pub record AreGoing (from : Addr) (outs rest : List Out) (before shown : List OutLine) (old now : CodeWorld) : Type 0 where
  pub lines : shown ++ out_lines from.node (length now.frames) rest ≡ before ++ out_lines from.node (length old.frames) outs
  pub frames : now.frames ++ frames_of from rest ≡ old.frames ++ frames_of from outs
  pub few : length old.frames ≤ 65535 → length now.frames ≤ 65535
  pub nodes : now.nodes ≡ old.nodes
  pub sites : now.sites ≡ old.sites
  pub trees : now.trees ≡ old.trees

pub going_first : (from : Addr) (outs rest : List Out) (before : List OutLine) (v : CodeWorld) → rest ≡ outs → AreGoing from outs rest before before v v
going_first from outs rest before v e = record {
  lines = ap (λ (l : List Out). before ++ out_lines from.node (length v.frames) l) e;
  frames = ap (λ (l : List Out). v.frames ++ frames_of from l) e;
  few = λ h. h;
  nodes = refl;
  sites = refl;
  trees = refl;
}

pub going_on : (from : Addr) (o : Out) (outs some rest : List Out) (before lines after : List OutLine) (old now new : CodeWorld) → some ≡ o ∷ rest
    → AreGoing from outs some before lines old now → AreGiven from (o ∷ []) lines after now new → AreGoing from outs rest before after old new
going_on from o outs some rest before lines after old now new e g h = record {
  lines =
      ap (λ (l : List OutLine). l ++ out_lines from.node (length new.frames) rest) h.lines
      ∙ ap (λ (l : List Frame). (lines ++ out_lines from.node (length now.frames) (o ∷ [])) ++ out_lines from.node (length l) rest) h.frames
      ∙ append_assoc lines (out_lines from.node (length now.frames) (o ∷ [])) (out_lines from.node (length (now.frames ++ frames_of from (o ∷ []))) rest)
      ∙ ap (λ (l : List OutLine). lines ++ l) (sym (lines_then from o rest now.frames))
      ∙ ap (λ (l : List Out). lines ++ out_lines from.node (length now.frames) l) (sym e)
      ∙ g.lines;
  frames =
      ap (λ (l : List Frame). l ++ frames_of from rest) h.frames
      ∙ append_assoc now.frames (frames_of from (o ∷ [])) (frames_of from rest)
      ∙ ap (λ (l : List Frame). now.frames ++ l) (sym (frames_then from o rest))
      ∙ ap (λ (l : List Out). now.frames ++ frames_of from l) (sym e)
      ∙ g.frames;
  few = λ few. h.few (g.few few);
  nodes = h.nodes ∙ g.nodes;
  sites = h.sites ∙ g.sites;
  trees = h.trees ∙ g.trees;
}

pub going_last : (from : Addr) (outs rest : List Out) (before lines : List OutLine) (old now : CodeWorld) → rest ≡ [] → AreGoing from outs rest before lines old now → AreGiven from outs before lines old now
going_last from outs rest before lines old now e g = record {
  lines = sym (append-nil lines) ∙ ap (λ (l : List Out). lines ++ out_lines from.node (length now.frames) l) (sym e) ∙ g.lines;
  frames = sym (append-nil now.frames) ∙ ap (λ (l : List Out). now.frames ++ frames_of from l) (sym e) ∙ g.frames;
  few = g.few;
  nodes = g.nodes;
  sites = g.sites;
  trees = g.trees;
}

-- the frames came past the limit
pub going_past : (from : Addr) (o : Out) (outs some rest : List Out) (before lines : List OutLine) (old now : CodeWorld) → some ≡ o ∷ rest → AreGoing from outs some before lines old now
    → 65535 < length now.frames + length (frames_of from (o ∷ [])) → 65535 < length old.frames + length (frames_of from outs)
going_past from o outs some rest before lines old now e g past =
    let all : length now.frames + length (frames_of from some) ≡ length old.frames + length (frames_of from outs) = sym (length-append now.frames (frames_of from some)) ∙ ap length g.frames ∙ length-append old.frames (frames_of from outs) in
    let parts : length (frames_of from some) ≡ length (frames_of from (o ∷ [])) + length (frames_of from rest) = ap (λ (l : List Out). length (frames_of from l)) e ∙ ap length (frames_then from o rest) ∙ length-append (frames_of from (o ∷ [])) (frames_of from rest) in
    omega (arith, all, parts, past)

pub going_fault : (from : Addr) (o : Out) (outs some rest : List Out) (before lines after : List OutLine) (old now new last : CodeWorld) (f : SendFault) → some ≡ o ∷ rest
    → AreGoing from outs some before lines old now → GivesOuts from (o ∷ []) lines (Err f) after now new → GivesOuts from outs before (Err f) after old last
going_fault from o outs some rest before lines after old now new last SendFault.Full e g h = going_past from o outs some rest before lines old now e g h
going_fault from o outs some rest before lines after old now new last SendFault.NoMemory e g h = tt
