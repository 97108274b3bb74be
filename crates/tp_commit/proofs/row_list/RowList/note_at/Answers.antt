use Rattle.std.proofs.Common.{arith, set}
use Rattle.tp_commit.proofs.Ascending.{ascends_noted, ascends_marked, noted_first}
use Rattle.tp_commit.proofs.row_list.RowList.note_at.Goals as goal

pub invariant_of-self : goal.invariant_of-self
invariant_of-self c = record {
  room = c.self.invariant.room;
  ascends = λ h.
      ascends_noted
      c.self.inside.rows.items
      (set c.self.inside.rows.items c.in-Some.place c.note.new.self)
      c.args.peer
      c.args.note
      (grind (arith, c.note.ensures, c.index_mut.ensures.value, c.place.ensures, c.self.view_is, noted_first))
      (c.self.invariant.ascends h);
}

pub invariant_of-self-in-None : goal.invariant_of-self-in-None
invariant_of-self-in-None c = record {
  room = c.self.invariant.room;
  ascends = λ h. ascends_marked c.self.inside.rows c.note_at.new.rows c.args.peer c.args.note (grind (arith, c.note_at.ensures, c.as_mut_slice.ensures.value)) (c.self.invariant.ascends h);
}
