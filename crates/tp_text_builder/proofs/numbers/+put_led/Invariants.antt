use Rattle.tp_text_builder.proofs.numbers.+put_led.Given as goal

abbrev pub decreases-put_led : goal.decreases-put_led
decreases-put_led l = l.n
