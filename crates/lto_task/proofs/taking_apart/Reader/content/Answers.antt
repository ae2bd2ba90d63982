use Rattle.std.proofs.Common.{◌∙◌, ◌++◌, ℕ, List, ap, refl, sym}
use Rattle.std.specs.List.{flat_map}
use Rattle.lto_task.specs.Units.{name_line}
use Rattle.lto_task.proofs.Headings.{names_one}
use Rattle.lto_task.proofs.taking_apart.Reader.content.Goals as goal

pub returns-in_default-2 : goal.returns-in_default-2
returns-in_default-2 c = λ refs text more all count bytes is.
    let read = rw c.in-Some.is at c.in_ok-refs.ensures in
    (rw c.in_default-2.is at c.in_ok-text.ensures) text more bytes
    (names_one c.in-Some.refs c.names.new.self.rest.now refs (text ++ more) read.0 all (read.1 ∙ sym count) (sym read.2 ∙ is)).1

pub returns : goal.returns
returns c =
    let refs = rw c.in-Some.is at c.in_ok-refs.ensures in
    let text = rw c.in-Some-2.is at c.in_ok-text.ensures in
    (refl, refs.0, refs.1, text.0, refs.2 ∙ ap (λ (l : List ℕ). flat_map name_line c.in-Some.refs ++ l) text.1)
