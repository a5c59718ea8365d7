-- `templates::AddTerms::halves` meets its contract: two terms.
use Rattle.templates.proofs.AddTerms.halves.Goals as goal

pub returns : goal.returns
returns c = c.two.ensures
