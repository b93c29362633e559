use Rattle.ndx_tree.specs.Pages.{view_of}
use Rattle.ndx_tree.proofs.Join.{only_child}
use Rattle.ndx_tree.proofs.page.TreePage.lower.Goals as goal

pub returns-clause-child : goal.returns-clause-child
returns-clause-child c =
    only_child c.args.self.now c.in-Some.child
    (view_of c.drop.inside.most c.drop.inside.entries.items c.drop.inside.children.items) c.self.inside.most
    c.self.inside.entries.items c.self.inside.children.items c.pop.new.self.items c.self.view_is c.self.invariant.0
    c.requires.inner c.requires.idle c.in-Some.ensures.items c.drop.view_is
