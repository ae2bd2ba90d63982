use Rattle.std.proofs.Common.{◌++◌, ◌∷◌}
use Rattle.std.specs.Fmt.{decimal}
use Rattle.ir_tree.specs.Names.{quoted}
use Rattle.lto_task.proofs.Headings.{front_of, rest_of}
use Rattle.lto_task.proofs.taking_apart.first_line.Goals as goal

pub returns-in_default-split_number : goal.returns-in_default-split_number
returns-in_default-split_number c = λ n r b all small least is.
    c.in_default-split_number.ensures (quoted n ++ (32 ∷ decimal r)) b least (rest_of c.args.line.now c.in-Some.rest.now n r b c.in-Some.ensures is)

pub returns-in_default-split_number-2 : goal.returns-in_default-split_number-2
returns-in_default-split_number-2 c = λ n r b all small least is.
    c.in_default-split_number-2.ensures (quoted n) r small
    (front_of c.in-Some.rest.now c.in-Some-split_number.front.now (quoted n ++ (32 ∷ decimal r)) c.in-Some-split_number.bytes b c.in-Some-split_number.ensures.0 c.in-Some-split_number.ensures.1 least
    (rest_of c.args.line.now c.in-Some.rest.now n r b c.in-Some.ensures is))

pub returns-in-None : goal.returns-in-None
returns-in-None c = λ n r b all small least is.
    (rw c.in-None.is at c.in_ok-name.ensures) n all
    (front_of c.in-Some-split_number.front.now c.in-Some-split_number-2.written.now (quoted n) c.in-Some-split_number-2.refs r c.in-Some-split_number-2.ensures.0 c.in-Some-split_number-2.ensures.1 small
    (front_of c.in-Some.rest.now c.in-Some-split_number.front.now (quoted n ++ (32 ∷ decimal r)) c.in-Some-split_number.bytes b c.in-Some-split_number.ensures.0 c.in-Some-split_number.ensures.1 least
    (rest_of c.args.line.now c.in-Some.rest.now n r b c.in-Some.ensures is)))
