use Rattle.std.proofs.Common.{◌∙◌, ap, sym, Some}
use Rattle.combined_index.specs.Noted.{text_of}
use Rattle.combined_index.proofs.Twice.{note_again, note_new, noted_nameless}
use Rattle.combined_index.proofs.taken.note.Goals as goal

pub returns-in_default : goal.returns-in_default
returns-in_default c = λ names noted. rw c.in_default.is (noted_nameless names c.args.seen.now.keys (text_of c.args.best) noted)

pub returns-then-branch : goal.returns-then-branch
returns-then-branch c = λ names noted.
    note_new names c.args.seen.now.keys c.insert.new.self.keys (text_of c.args.best) c.as_slice-name.result c.args.name.now
    (c.in-Some.is ∙ ap Some (sym c.as_slice-name.ensures)) c.in_ok-insert.ensures.keys (sym c.in_ok-insert.ensures.added ∙ c.if-branch.true) noted

pub returns : goal.returns
returns c = λ names noted.
    note_again names c.args.seen.now.keys c.insert.new.self.keys (text_of c.args.best) c.as_slice-name.result c.args.name.now
    (c.in-Some.is ∙ ap Some (sym c.as_slice-name.ensures)) c.in_ok-insert.ensures.keys (sym c.in_ok-insert.ensures.added ∙ c.if-branch.false) _ c.lesser.ensures noted
