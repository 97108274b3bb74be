use Rattle.tp_control.proofs.Leading.{leading_turn}
use Rattle.tp_control.proofs.TookBack.{above_law}
use Rattle.tp_control.proofs.branches_are_led.Goals as goal

pub returns : goal.returns
returns c = record { turn = leading_turn; history = λ o up h p x y s k empty legal below rounds live. above_law o up h empty legal p below rounds x y s k live }
