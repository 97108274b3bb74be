-- The words of the definitions and of the lower laws that the proofs of this crate speak in.
pub use Rattle.std.proofs.Common.{◌≡◌, ◌≤◌, ◌==◌, ◌&&◌, ◌++◌, ◌+◌, ℕ, zero, suc, Bool, true, false, cond, refl, ap, sym, ◌∙◌, subst, arith, Option, Some, None, List, [], ◌∷◌, length, reverse, not, if◌then◌else◌, append-nil, append_assoc}
pub use Rattle.std.proofs.lemmas.Bool.Decides.{nat_tests}
pub use Rattle.std.proofs.lemmas.List.{reverse-append}
pub use Rattle.tp_names.specs.declared.identifiers.Addr.{Addr}
pub use Rattle.tp_names.specs.declared.identifiers.NodeKey.{NodeKey}
pub use Rattle.tp_names.specs.Same.{is_name}
pub use Rattle.tp_names.proofs.Sames.{both, name_same, name_self}
pub use Rattle.tp_logrec.specs.declared.record.LogRec.{LogRec}
pub use Rattle.tp_logrec.specs.declared.record.LogVersion.{LogVersion}
pub use Rattle.tp_logrec.specs.Order.{owner, owner_of, boots, all_below, last_number, is_begun, last_boot_from, follows, follow_from, all_follow}
pub use Rattle.tp_logrec.proofs.Stands.{boots-append, begun_after_is, boot_after_is}
pub use Rattle.tp_logrec.proofs.BriefOrders.{follow_from-append}
pub use Rattle.tp_model.specs.Parts.{Origin, Event, Entry, Digest}
unfoldable pub use Rattle.tp_model.specs.Events.{refusal, verdict, after_crash, started}
pub use Rattle.tp_model.specs.History.{digest, refuse, entry_of, answer, records, with_rec, again, crashed}
pub use Rattle.tp_model.specs.Legal.{IsGrown, is_start}
pub use Rattle.tp_model.specs.NodeRun.{is_record_at, records_at}
pub use Rattle.tp_model.specs.World.{World, Node, Site, number_of, site_of, find_node, put_node, find_site, put_site}
pub use Rattle.tp_steps.proofs.log.OwnRecords.{IsOwnRec}
pub use Rattle.tp_histories.proofs.log.StartLog.{IsSoundStart}
pub use Rattle.tp_site_logs.specs.SiteLogs.{log_of, forced_by, one_to}
