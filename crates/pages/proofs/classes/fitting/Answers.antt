use Rattle.std.proofs.Common.{◌≡◌, ℕ, leb, map, unwrap_or, Option, ap, ◌∙◌, rules, tests}
use Rattle.std.specs.Option.{option_map}
use Rattle.std.proofs.lemmas.Iterator.{YieldsList-from_slice}
use Rattle.std.proofs.lemmas.Iterator.Search.{find_from_yields_List}
use Rattle.model.specs.Classes.{sizes}
use Rattle.pages.specs.Classes.{size_for}
use Rattle.pages.specs.declared.class.Class.{Class}
use Rattle.pages.proofs.Sizes.{class_of, smallest, fitting_class, fitting_size}
use Rattle.pages.proofs.classes.fitting.Goals as goal

size_is : (c : goal.After-map) → c.map.result ≡ size_for c.args.words
size_is c =
    let is : c.map.result ≡ option_map (λ (x : Class). x.size) (option_map (λ x. x.now) c.find.result) = search rules in
    is
    ∙ ap (option_map (λ (x : Class). x.size))
    (find_from_yields_List (λ x. leb c.args.words x.size) _ _ c.find.result c.find.ensures.ran (YieldsList-from_slice (map class_of sizes) cc) (λ x b q k. search (rules, tests)))
    ∙ fitting_class c.args.words

pub returns-clause-size : goal.returns-clause-size
returns-clause-size c = size_is c

pub returns-clause-smallest : goal.returns-clause-smallest
returns-clause-smallest c =
    smallest c.args.words (unwrap_or c.map.result 0) (ap (λ (o : Option ℕ). unwrap_or o 0) (size_is c) ∙ fitting_size c.args.words)
