use Rattle.tp_text_builder.proofs.Added.{adds_then}
use Rattle.tp_text_builder.proofs.text.Text.two_dotted.Goals as goal

pub returns-else-m-lt10 : goal.returns-else-m-lt10
returns-else-m-lt10 c = adds_then c.led.ensures c.led-else-m-lt10.ensures
