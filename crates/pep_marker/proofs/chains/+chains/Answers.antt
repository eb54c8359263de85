-- The chains are read as the grammar has them.
use Rattle.std.proofs.Common.{inl, inr, sym, subst, map, refl, arith}
use Rattle.std.proofs.lemmas.Result.{err_from_is_err_and}
use Rattle.std.specs.Prelude.{IfOk}
use Rattle.pep_marker.specs.Way.Chains.{IsRead, ItemFrom, chain_part, item_part, link_word}
use Rattle.pep_marker.specs.declared.making.Link.TheVariants.{And, Or}
use Rattle.pep_marker.specs.Way.Token.{token_of}
use Rattle.pep_marker.proofs.ChainLaws.{shorter_part}
use Rattle.pep_marker.proofs.ChainLoops.{first_so, whole, refuses_by, no_first, read_as}
use Rattle.pep_marker.proofs.ChainLoops.{chain_refused, chain_step, left_shorter}
use Rattle.pep_marker.proofs.ChainLoops.{closed, not_closed, operand_first, part_read}
use Rattle.pep_marker.proofs.chains.+chains.Goals as goal

pub chain-returns-in_err-front-clause-refused : goal.chain-returns-in_err-front-clause-refused
chain-returns-in_err-front-clause-refused g t c =
    let p = err_from_is_err_and c.from_residual.result c.from_residual.ensures.1 in
    rw (p.1, p.2) (refuses_by _ _ c.args.depth c.args.room (map token_of c.args.tokens.now)
    c.in_err-front.field-0.0
    (no_first c.args.link c.args.depth c.args.room (map token_of c.args.tokens.now))
    c.in_err-front.ensures.refused)

pub chain-loop-behind-init : goal.chain-loop-behind-init
chain-loop-behind-init g t c =
    read_as (λ m h. first_so c.args.link c.args.depth _ m _ h) c.in_ok-front.ensures.read

pub chain-behind_word-requires : goal.chain-behind_word-requires
chain-behind_word-requires g t c = c.loop-behind.invariant.stands.over

pub chain-overflow_sub-left : goal.chain-overflow_sub-left
chain-overflow_sub-left g t c = omega (arith, c.loop-behind.invariant.few)

pub chain-returns-in_err-next-clause-refused : goal.chain-returns-in_err-next-clause-refused
chain-returns-in_err-next-clause-refused g t c =
    let p = err_from_is_err_and c.from_residual-in_err-next.result
    c.from_residual-in_err-next.ensures.1 in
    rw (p.1, p.2) (chain_refused c.args.link c.args.depth c.args.room _
    (map token_of c.args.tokens.now) _ (map token_of c.in-Some.behind.now)
    c.in_err-next.field-0.0 c.loop-behind.invariant c.in-Some.ensures.some
    c.in_err-next.ensures.refused)

pub chain-overflow_add-front : goal.chain-overflow_add-front
chain-overflow_add-front g t c =
    omega (arith, c.loop-behind.invariant.few, c.in_ok-next.ensures.read.few, c.ranges.room)

pub chain-loop-behind-smaller : goal.chain-loop-behind-smaller
chain-loop-behind-smaller g t c =
    left_shorter c.loop-behind.front.rest.now c.in-Some.behind.now c.in_ok-next.next.rest.now
    (link_word c.args.link) c.in-Some.ensures.some
    (shorter_part c.in_ok-next.ensures.read.stands.0)

pub chain-loop-behind-preserved : goal.chain-loop-behind-preserved
chain-loop-behind-preserved g t c =
    chain_step c.args.link c.args.depth _ _ _ _ _ _ _ c.loop-behind.invariant
    c.in-Some.ensures.some c.in_ok-next.ensures.read c.in_ok-joined.ensures

pub chain-returns-clause-read : goal.chain-returns-clause-read
chain-returns-clause-read g t c =
    read_as (λ m so. whole _ _ _ m _ so c.in_default.ensures.none) c.loop-behind.invariant

pub part_at-returns-in-And-clause-read : goal.part_at-returns-in-And-clause-read
part_at-returns-in-And-clause-read g t c =
    part_read c.item_at.result _ _ And c.args.link c.args.depth c.args.room
    (map token_of c.args.tokens.now) c.in-And.is (λ m r i. (item_part i, refl))
    c.item_at.ensures.read

pub part_at-returns-in-Or-clause-read : goal.part_at-returns-in-Or-clause-read
part_at-returns-in-Or-clause-read g t c =
    part_read c.chain.result _ _ Or c.args.link c.args.depth c.args.room
    (map token_of c.args.tokens.now) c.in-Or.is (λ m r h. (chain_part h.0, h.1))
    c.chain.ensures.read

pub in_parentheses-returns-in_default-clause-refused :
    goal.in_parentheses-returns-in_default-clause-refused
in_parentheses-returns-in_default-clause-refused g t c =
    let front = c.in_ok-front.ensures.read in
    inr (
      inl refl,
      not_closed c.args.depth c.args.room _ _ front.marker front.stands c.in_default.ensures.none,
    )

pub in_parentheses-returns-clause-read : goal.in_parentheses-returns-clause-read
in_parentheses-returns-clause-read g t c =
    read_as (λ m h. closed c.args.depth _ _ _ m h c.in-Some.ensures.some) c.in_ok-front.ensures.read

pub item_at-returns-in-Operand-clause-read : goal.item_at-returns-in-Operand-clause-read
item_at-returns-in-Operand-clause-read g t c =
    let here = operand_first c.args.tokens.now _ c.in-Operand.left c.in-len1-up.len_at_least
    c.in-Operand.is in
    subst (λ ts. IfOk c.comparison.result (IsRead (g.M.Making.means c.args.making.now)
    (ItemFrom c.args.depth ts) c.args.room)) (sym here) (c.comparison.ensures.read c.args.depth)
