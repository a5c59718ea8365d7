-- `joined` meets its contract: five lanes are known by their places.
use borrow.Author.Rules.{rules}
use Rattle.lists.specs.Tab.{tab, tab_from}
use Rattle.fips202.proofs.Steps.{by-places}
use Rattle.permutation.proofs.lanes.joined.Goals as goal

pub returns : goal.returns
unfolding tab tab_from
returns c =
    let a = c.args in
    by-places a.a a.b a.c a.d a.e (search rules) (search rules) (search rules) (search rules) (search rules)
