use Rattle.std.proofs.Common.{◌≡◌, ◌≤◌, ℕ, ◌+◌, List, Option, Some, None, Ok, length, take, drop, refl, sym, subst, ap, ◌∙◌}
use Rattle.tp_schedule.specs.declared.lines.Cut.{Cut}
use Rattle.tp_schedule.specs.AtHand.{together}
use Rattle.tp_schedule.specs.LinesLeft.{Place, HandsOut, IsFor, answer}
use Rattle.tp_schedule.specs.LineCut.{Takes, Sought}
use Rattle.tp_schedule.proofs.LineHanded.{handed, handed_short, handed_answer, handed_ahead}
use Rattle.tp_schedule.proofs.lines.Lines.next.Goals as goal

pub returns-in-Ok-Some : goal.returns-in-Ok-Some
returns-in-Ok-Some g c =
    let old : Place = c.args.self.now in
    let left = g.S.Source.left c.args.source.now in
    let rest = g.S.Source.left c.seek.new.source in
    let w = c.seek.new.window in
    let cut : Cut = c.in-Ok-Some.cut in
    let held : c.pass.new.self ≡ old.held = c.pass.ensures ∙ ap (λ (p : Place). p.held) c.self.view_is in
    let before : c.self.inside.before ≡ old.before = ap (λ (p : Place). p.before) c.self.view_is in
    let fault : old.fault ≡ None = sym (ap (λ (p : Place). p.fault) c.self.view_is) ∙ c.in_default.is in
    let found : Takes c.self.inside.before (together c.pass.new.self left) w rest cut =
    subst (λ (o : Option Cut). Sought c.self.inside.before (together c.pass.new.self left) w rest (Ok o)) c.in-Ok-Some.field-0-is c.in-Ok-Some.ensures.finds in
    let takes : Takes old.before (together old.held left) w rest cut =
    subst (λ (k : ℕ). Takes k (together old.held left) w rest cut) before (subst (λ (t : List ℕ). Takes c.self.inside.before (together t left) w rest cut) held found) in
    let new : Place = record { held = drop cut.taken w; before = c.self.inside.before + cut.taken; fault = c.self.inside.fault } in
    let text : take cut.len w ≡ take cut.len c.bytes.result.now = ap (λ (t : List ℕ). take cut.len t) (sym c.bytes.ensures.value) in (
      (
        refl,
        λ _. tt,
        subst (λ (t : List ℕ). HandsOut old left t new rest) text (handed old new left rest w cut takes refl (ap (λ (k : ℕ). k + cut.taken) before) c.in_default.is),
      ),
      record {
        line = subst (λ (t : List ℕ). IsFor (answer old) (together old.held left) (Ok (Some t))) text (handed_answer old (together old.held left) w rest cut fault takes);
        few = subst (λ (t : List ℕ). length t ≤ 8192) text (handed_short old.before (together old.held left) w rest cut takes);
        again = λ f is. absurd cc;
        unread = λ f is. absurd cc;
        count = λ n none is. absurd cc;
        risen = λ n none is. absurd cc;
        kept = c.in-Ok-Some.ensures.kept;
        ahead = λ none. handed_ahead old.before (together old.held left) w rest cut takes (take cut.len c.bytes.result.now);
        leaves = tt;
      },
    )
