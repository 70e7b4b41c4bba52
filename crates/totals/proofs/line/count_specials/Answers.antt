-- `line::count_specials`: the bytes that the filter lets through are the special ones.
-- Assumes nothing.
use mathlib.Core.Path.{◌≡◌, refl, ◌∙◌}
use mathlib.Core.Bool.{Bool, cond}
use mathlib.Core.List.{List, [], ◌∷◌}
use Prim.Native.Nat.{ℕ, suc, ◌+◌, ◌<◌}
use native.Mathlib.Omega.{arith}
use borrow.Author.Tests.{tests, leb-true, leb-false}
use lib.Dec.{leb}
use lib.ListN.{length, get_or}
use Rattle.std.proofs.Common.{rules}
use Rattle.std.specs.List.{filter}
use Rattle.std.proofs.lemmas.Iterator.{YieldsList-from_slice}
use Rattle.std.proofs.lemmas.Iterator.Consumers.{YieldsList-from_filter, count_from_yields_List}
use Rattle.ground.proofs.Laws.Choice.{by-test}
use Rattle.wire_spec.specs.Image.{start}
use Rattle.wire_spec.specs.Stuffing.{special, specials}
use Rattle.wire_spec.proofs.Laws.Stuffing.{plain-is, special-is}
use Rattle.totals.proofs.line.count_specials.Goals as goal

specials-filter : (l : List ℕ) → ((i : ℕ) → get_or l i 0 < 0x100) → length (filter (leb start) l) ≡ specials l
unfolding specials
specials-filter [] bytes = refl
specials-filter (b ∷ l) bytes =
    let rest = specials-filter l (λ i. bytes (suc i)) in
    by-test (λ (t : Bool). length (cond t (b ∷ filter (leb start) l) (filter (leb start) l)) ≡ cond (special b) 1 0 + specials l) (leb start b)
    (λ high. rw (special-is b (leb-true start b high) (bytes 0)) (omega (arith, rest)))
    (λ low. rw (plain-is b (leb-false start b low)) (omega (arith, rest)))

pub returns : goal.returns
returns c =
    let content = c.args.content.now in
    count_from_yields_List _ _ c.count.ensures.ran
    (YieldsList-from_filter _ (leb start) (YieldsList-from_slice content cc) c.filter.ensures.closure (λ x b q k. search (rules, tests)))
    ∙ specials-filter content (λ i. (c.type_inv.content i).fits)
