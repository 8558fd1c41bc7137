-- The last names of the list, behind the others' tests.
use Rattle.std.proofs.Common.{sym, ◌∙◌}
use Rattle.text.specs.Ascii.{ascii}
use Rattle.rsp_line.specs.Names.{name_of}
use Rattle.rsp_line.proofs.name.name_of.Goals as goal

pub returns-then-same-8 : goal.returns-then-same-8
unfolding name_of ascii
returns-then-same-8 c =
    rw (
      sym c.same.ensures ∙ c.if-same.false,
      sym c.same-else-same.ensures ∙ c.if-same-2.false,
      sym c.same-else-same-2.ensures ∙ c.if-same-3.false,
      sym c.same-else-same-3.ensures ∙ c.if-same-4.false,
      sym c.same-else-same-4.ensures ∙ c.if-same-5.false,
      sym c.same-else-same-5.ensures ∙ c.if-same-6.false,
      sym c.same-else-same-6.ensures ∙ c.if-same-7.false,
      sym c.same-else-same-7.ensures ∙ c.if-same-8.true,
    )

pub returns-then-same-9 : goal.returns-then-same-9
unfolding name_of ascii
returns-then-same-9 c =
    rw (
      sym c.same.ensures ∙ c.if-same.false,
      sym c.same-else-same.ensures ∙ c.if-same-2.false,
      sym c.same-else-same-2.ensures ∙ c.if-same-3.false,
      sym c.same-else-same-3.ensures ∙ c.if-same-4.false,
      sym c.same-else-same-4.ensures ∙ c.if-same-5.false,
      sym c.same-else-same-5.ensures ∙ c.if-same-6.false,
      sym c.same-else-same-6.ensures ∙ c.if-same-7.false,
      sym c.same-else-same-7.ensures ∙ c.if-same-8.false,
      sym c.same-else-same-8.ensures ∙ c.if-same-9.true,
    )

pub returns-else-same-9 : goal.returns-else-same-9
unfolding name_of ascii
returns-else-same-9 c =
    rw (
      sym c.same.ensures ∙ c.if-same.false,
      sym c.same-else-same.ensures ∙ c.if-same-2.false,
      sym c.same-else-same-2.ensures ∙ c.if-same-3.false,
      sym c.same-else-same-3.ensures ∙ c.if-same-4.false,
      sym c.same-else-same-4.ensures ∙ c.if-same-5.false,
      sym c.same-else-same-5.ensures ∙ c.if-same-6.false,
      sym c.same-else-same-6.ensures ∙ c.if-same-7.false,
      sym c.same-else-same-7.ensures ∙ c.if-same-8.false,
      sym c.same-else-same-8.ensures ∙ c.if-same-9.false,
    )
