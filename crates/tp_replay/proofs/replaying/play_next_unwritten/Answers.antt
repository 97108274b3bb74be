use Rattle.std.proofs.Common.{◌∙◌, [], ap, refl, subst, Ok, Some}
use Rattle.tp_schedule.specs.AtHand.{together}
use Rattle.tp_schedule.specs.LinesLeft.{answer, shown, IsFor, IsAhead, Leaves}
use Rattle.tp_replay.proofs.Left.{none_left, none_unread, parted, reads_to}
use Rattle.tp_replay.proofs.Ended.{plays_first, ends_first, unheard_ends}
use Rattle.tp_replay.proofs.replaying.play_next_unwritten.Goals as goal

pub returns-in-Ok-None-clause-plays : goal.returns-in-Ok-None-clause-plays
returns-in-Ok-None-clause-plays g c = λ w ls h is.
    let left = g.S.Source.left c.args.source.now in
    let none =
    none_left c.args.lines.now left ls c.requires.unfaulted is
    (subst (λ v. IsFor (answer c.args.lines.now) (together c.args.lines.now.held left) (shown (Ok v))) c.in-Ok-None.field-0-is (c.in-Ok-None.ensures {u = tt}).line) in
    record {
      none = none;
      ended = none_unread c.args.lines.now left ls c.next.follows.lender-at-none (g.S.Source.left c.next.new.source) is none
          (subst (λ v. Leaves c.args.lines.now left (shown v) c.next.follows.lender-at-none (g.S.Source.left c.next.new.source)) (c.in-Ok-None.is ∙ ap Ok c.in-Ok-None.field-0-is) c.next.follows.holds-at-none);
      same = refl;
    }

pub returns-in-Ok-clause-plays : goal.returns-in-Ok-clause-plays
returns-in-Ok-clause-plays g c = λ w ls h is.
    let left = g.S.Source.left c.args.source.now in
    let rest = g.S.Source.left c.next.new.source in
    let played = (c.in-Ok.ensures {u = tt}).played w h in
    let first =
    plays_first _ c.args.at w c.args.world.now c.play_unwritten.new.world c.args.lines.now left ls c.in-Ok-Some.text.now c.next.follows.lender-at-none rest
    (parted c.args.lines.now left ls c.in-Ok-Some.text.now c.next.follows.lender-at-none rest c.requires.unfaulted is
    (subst (λ v. IsFor (answer c.args.lines.now) (together c.args.lines.now.held left) (shown (Ok v))) c.in-Ok-Some.field-0-is (c.in-Ok-Some.ensures {u = tt}).line)
    (subst (λ v. Leaves c.args.lines.now left (shown v) c.next.follows.lender-at-none rest) (c.in-Ok-Some.is ∙ ap Ok c.in-Ok-Some.field-0-is) c.next.follows.holds-at-none))
    [] played.0 played.1 in
    (played.0, first)

pub returns-in-Err-play_unwritten-clause-plays : goal.returns-in-Err-play_unwritten-clause-plays
returns-in-Err-play_unwritten-clause-plays g c = λ w ls h is.
    let left = g.S.Source.left c.args.source.now in
    let rest = g.S.Source.left c.next.new.source in
    ends_first _ c.args.at w c.args.world.now c.play_unwritten.new.world c.args.lines.now left ls c.in-Ok-Some.text.now c.next.follows.lender-at-none rest
    (parted c.args.lines.now left ls c.in-Ok-Some.text.now c.next.follows.lender-at-none rest c.requires.unfaulted is
    (subst (λ v. IsFor (answer c.args.lines.now) (together c.args.lines.now.held left) (shown (Ok v))) c.in-Ok-Some.field-0-is (c.in-Ok-Some.ensures {u = tt}).line)
    (subst (λ v. Leaves c.args.lines.now left (shown v) c.next.follows.lender-at-none rest) (c.in-Ok-Some.is ∙ ap Ok c.in-Ok-Some.field-0-is) c.next.follows.holds-at-none))
    c.in-Err-play_unwritten.stop
    (reads_to c.args.lines.now left ls rest (Ok (Some c.in-Ok-Some.text.now)) is
    (subst (λ v. IsAhead (together c.args.lines.now.held left) rest (shown (Ok v))) c.in-Ok-Some.field-0-is ((c.in-Ok-Some.ensures {u = tt}).ahead c.requires.unfaulted)))
    ((c.in-Err-play_unwritten.ensures {u = tt}).played w h)

pub returns-in-Err-clause-plays : goal.returns-in-Err-clause-plays
returns-in-Err-clause-plays g c = λ w ls h is.
    unheard_ends _ c.args.at w c.args.world.now c.args.world.now c.args.lines.now (g.S.Source.left c.args.source.now) ls c.in-Err.fault c.unheard.result (g.S.Source.left c.next.new.source) c.unheard.ensures c.requires.unfaulted is
    (c.in-Err.ensures {u = tt}).line ((c.in-Err.ensures {u = tt}).ahead c.requires.unfaulted) refl
