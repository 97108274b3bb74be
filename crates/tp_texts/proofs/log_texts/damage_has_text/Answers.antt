-- The record has a text where its key with the superior, its judgement and its children are read back, and there alone.
use Rattle.std.proofs.Common.{refl, sym, ◌∙◌}
use Rattle.tp_texts.proofs.RecordTexts.{damage_text, damage_key_given, damage_judgement_given, damage_children_given, refused}
use Rattle.tp_texts.proofs.log_texts.damage_has_text.Goals.{then-key_and_superior_read, else-key_and_superior_read}
use Rattle.tp_texts.proofs.log_texts.damage_has_text.Goals as goal

pub returns-then-judgement_reads : goal.returns-then-judgement_reads
returns-then-judgement_reads c = elim c.if-key_and_superior_read.branch [
  | then-key_and_superior_read w ↦ (
    λ yes.
        damage_text _ _ _ _ _ _ _ c.ranges.node.fits (w.if-key_and_superior_read.ensures.reads refl) (w.judgement_reads.ensures.reads (sym w.value-is ∙ c.if-judgement_reads.true)) (c.children_read.ensures.reads yes),
    λ text. c.children_read.ensures.only (damage_children_given _ _ _ _ _ _ _ text),
  )
  | else-key_and_superior_read w ↦ refused _ w.if-key_and_superior_read.false (sym w.value-is ∙ c.if-judgement_reads.true)
]

pub returns-else-judgement_reads : goal.returns-else-judgement_reads
returns-else-judgement_reads c = (
  refused _ c.if-judgement_reads.false,
  λ text. elim c.if-key_and_superior_read.branch [
    | then-key_and_superior_read w ↦ w.value-is ∙ w.judgement_reads.ensures.only (damage_judgement_given _ _ _ _ _ _ _ text)
    | else-key_and_superior_read w ↦ w.value-is ∙ c.key_and_superior_read.ensures.only (damage_key_given _ _ _ _ _ _ _ text)
  ],
)
