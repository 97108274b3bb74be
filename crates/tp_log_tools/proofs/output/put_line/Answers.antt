use Rattle.tp_log_tools.proofs.Outputs.{so_far, on_err}
use Rattle.tp_log_tools.proofs.output.put_line.Goals as goal

pub returns-in_err-write_line-clause-err : goal.returns-in_err-write_line-clause-err
returns-in_err-write_line-clause-err g c = on_err c.from_residual.result _ (λ before text way. so_far before text c.args.out.now _ _ way)
