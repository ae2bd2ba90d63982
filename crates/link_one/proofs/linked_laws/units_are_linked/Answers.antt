use Rattle.link_one.proofs.Stripped.{units_text}
use Rattle.link_one.proofs.linked_laws.units_are_linked.Goals as goal

pub returns : goal.returns
returns c =
    units_text
    (record { interface = c.made_has_interface.ensures; better = c.made_is_better.ensures.better; sounds = c.made_is_better.ensures.sound; knows = c.made_is_known.ensures; by_module = c.live_by_module.ensures.modules; defines = c.live_by_module.ensures.definitions; sound = c.live_by_module.ensures.sound; known = c.live_is_known.ensures.known })
    (record { outside = c.live_by_module.ensures.outside; exported = c.live_is_known.ensures.exported; refines = c.live_refines.ensures.compiled; closed = c.emission_is_reordering.ensures.closed; reordered = c.emission_is_reordering.ensures.order; whole = c.emission_is_whole.ensures.whole; sound = c.emission_is_whole.ensures.sound })
    c.joined_is_emission.ensures c.stripped_is_join.ensures
