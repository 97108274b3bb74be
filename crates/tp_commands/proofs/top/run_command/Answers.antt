use Rattle.std.proofs.Common.{refl}
use Rattle.tp_words.specs.declared.command.Command.{Command}
use Rattle.tp_commands.proofs.Dispatched.{runs_as}
use Rattle.tp_commands.proofs.Replayed.{replay_ends, replay_limits, trial_ends}
use Rattle.tp_commands.proofs.top.run_command.Goals as goal

pub returns-in-Replay-clause-ending : goal.returns-in-Replay-clause-ending
returns-in-Replay-clause-ending g c = (replay_ends _ _ _ _ _ _ c.replay-answer.result _ c.of_replay.ensures c.replay-answer.ensures.stop).cause

pub returns-in-Replay-clause-runs : goal.returns-in-Replay-clause-runs
returns-in-Replay-clause-runs g c =
    runs_as c.args.command Command.Replay _ _ _ _ c.in-Replay.is (record {
      exit = (replay_ends _ _ _ _ 0 0 c.replay-answer.result _ c.of_replay.ensures c.replay-answer.ensures.stop).exit;
      source = tt;
      sink = tt;
      disk = refl;
      does = record {
        limits = replay_limits _ _ _ _ c.replay-answer.result _ c.of_replay.ensures c.replay-answer.ensures.stop;
        reads = λ bytes is. record { answer = c.replay-answer.result; ends = c.of_replay.ensures; reads = c.replay-answer.ensures.reads bytes is };
        writes = λ bytes is. record { answer = c.replay-answer.result; ends = c.of_replay.ensures; writes = c.replay-answer.ensures.transcript bytes is };
      };
    })

pub returns-in-Format-clause-ending : goal.returns-in-Format-clause-ending
returns-in-Format-clause-ending g c = (c.format_log.ensures.ends _ _ _ _).cause

pub returns-in-Show-clause-ending : goal.returns-in-Show-clause-ending
returns-in-Show-clause-ending g c = (c.show_log.ensures.ends _ _).cause

pub returns-in-Check-clause-ending : goal.returns-in-Check-clause-ending
returns-in-Check-clause-ending g c = (c.check_log.ensures.ends _ _).cause

pub returns-in-Make-clause-ending : goal.returns-in-Make-clause-ending
returns-in-Make-clause-ending g c = (c.make_schedule.ensures.ends _ _ _ _).cause

pub returns-in-Trial-clause-ending : goal.returns-in-Trial-clause-ending
returns-in-Trial-clause-ending g c = (trial_ends _ _ _ _ _ _ c.in-Trial.plan c.try_schedule-answer.result _ c.of_trial.ensures c.try_schedule-answer.ensures.stop).cause

pub returns-in-Compact-clause-ending : goal.returns-in-Compact-clause-ending
returns-in-Compact-clause-ending g c = (c.compact_log.ensures.ends _ _ _ _).cause

pub returns-in-Migrate-clause-ending : goal.returns-in-Migrate-clause-ending
returns-in-Migrate-clause-ending g c = (c.migrate_log.ensures.ends _ _ _ _).cause

pub returns-in-Keys-clause-ending : goal.returns-in-Keys-clause-ending
returns-in-Keys-clause-ending g c = (c.list_keys.ensures.ends _ _).cause

pub returns-in-Audit-clause-ending : goal.returns-in-Audit-clause-ending
returns-in-Audit-clause-ending g c = (c.audit_logs-status.ensures.ends _ _).cause

pub returns-in-Audit-clause-runs : goal.returns-in-Audit-clause-runs
returns-in-Audit-clause-runs g c =
    runs_as c.args.command Command.Audit _ _ _ _ c.in-Audit.is (record { exit = (c.audit_logs-status.ensures.ends 0 0).exit; source = tt; sink = tt; disk = refl; does = c.audit_logs-status.ensures.audits })

pub returns-in-Format-clause-runs : goal.returns-in-Format-clause-runs
returns-in-Format-clause-runs g c =
    runs_as c.args.command Command.Format _ _ _ _ c.in-Format.is (record { exit = (c.format_log.ensures.ends 0 0 0 0).exit; source = refl; sink = refl; disk = tt; does = c.format_log.ensures.formats })

pub returns-in-Show-clause-runs : goal.returns-in-Show-clause-runs
returns-in-Show-clause-runs g c =
    runs_as c.args.command Command.Show _ _ _ _ c.in-Show.is (record { exit = (c.show_log.ensures.ends 0 0).exit; source = refl; sink = tt; disk = tt; does = c.show_log.ensures.shows })

pub returns-in-Check-clause-runs : goal.returns-in-Check-clause-runs
returns-in-Check-clause-runs g c =
    runs_as c.args.command Command.Check _ _ _ _ c.in-Check.is (record { exit = (c.check_log.ensures.ends 0 0).exit; source = refl; sink = tt; disk = tt; does = c.check_log.ensures.checks })

pub returns-in-Make-clause-runs : goal.returns-in-Make-clause-runs
returns-in-Make-clause-runs g c =
    runs_as c.args.command (Command.Make c.in-Make.plan) _ _ _ _ c.in-Make.is (record { exit = (c.make_schedule.ensures.ends 0 0 0 0).exit; source = refl; sink = tt; disk = refl; does = c.make_schedule.ensures.makes })

pub returns-in-Trial-clause-runs : goal.returns-in-Trial-clause-runs
returns-in-Trial-clause-runs g c =
    runs_as c.args.command (Command.Trial c.in-Trial.plan) _ _ _ _ c.in-Trial.is (record { exit = (trial_ends 0 0 _ _ 0 0 c.in-Trial.plan c.try_schedule-answer.result _ c.of_trial.ensures c.try_schedule-answer.ensures.stop).exit; source = refl; sink = tt; disk = refl; does = record { answer = c.try_schedule-answer.result; ends = c.of_trial.ensures; tries = c.try_schedule-answer.ensures.tries } })

pub returns-in-Compact-clause-runs : goal.returns-in-Compact-clause-runs
returns-in-Compact-clause-runs g c =
    runs_as c.args.command Command.Compact _ _ _ _ c.in-Compact.is (record { exit = (c.compact_log.ensures.ends 0 0 0 0).exit; source = refl; sink = refl; disk = tt; does = c.compact_log.ensures.compacts })

pub returns-in-Migrate-clause-runs : goal.returns-in-Migrate-clause-runs
returns-in-Migrate-clause-runs g c =
    runs_as c.args.command Command.Migrate _ _ _ _ c.in-Migrate.is (record { exit = (c.migrate_log.ensures.ends 0 0 0 0).exit; source = refl; sink = refl; disk = tt; does = c.migrate_log.ensures.migrates })

pub returns-in-Node-clause-ending : goal.returns-in-Node-clause-ending
returns-in-Node-clause-ending g c = c.serve_site.ensures.ends.cause

pub returns-in-Node-clause-runs : goal.returns-in-Node-clause-runs
returns-in-Node-clause-runs g c =
    runs_as c.args.command (Command.Node c.in-Node.name) _ _ _ _ c.in-Node.is (record { exit = c.serve_site.ensures.ends.exit; source = tt; sink = tt; disk = tt; does = c.serve_site.ensures.serves })

pub returns-in-Tx-clause-ending : goal.returns-in-Tx-clause-ending
returns-in-Tx-clause-ending g c = c.serve_face.ensures.ends.cause

pub returns-in-Tx-clause-runs : goal.returns-in-Tx-clause-runs
returns-in-Tx-clause-runs g c =
    runs_as c.args.command (Command.Tx c.in-Tx.name) _ _ _ _ c.in-Tx.is (record { exit = c.serve_face.ensures.ends.exit; source = tt; sink = tt; disk = tt; does = c.serve_face.ensures.serves })
