use Rattle.std.proofs.Common.{◌∙◌, ◌++◌, Option, ap, sym}
use Rattle.std.proofs.lemmas.List.{map_push}
use Rattle.std.specs.Option.{option_map, option_to_list}
use Rattle.thin_link.specs.Rows.{all_shown, shown}
use Rattle.thin_link.specs.declared.entry.Entry.{Entry}
use Rattle.thin_link.proofs.table.push_found.Goals as goal

pub returns-in_ok-push : goal.returns-in_ok-push
returns-in_ok-push c =
    ap all_shown c.in_ok-push.ensures.items ∙ map_push shown c.args.rows.now.items c.in-Some.entry
    ∙ ap (λ (o : Option Entry). all_shown c.args.rows.now.items ++ option_to_list (option_map shown o)) (sym c.in-Some.is)
