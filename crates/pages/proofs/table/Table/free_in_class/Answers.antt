use Rattle.std.proofs.Common.{◌≡◌, ℕ, ◌+◌, ◌≤◌, Bool, cond, not, ◌&&◌, eqb, List, [], length, get_or, sym, ap, ◌∙◌, arith}
use Rattle.std.proofs.lemmas.Bool.{and_left, and_right, and_from, eq-eqb, ne_eqb}
use Rattle.model.specs.Pages.{Page, page_at, in_class, free}
use Rattle.pages.specs.declared.entry.Entry.{Entry}
use Rattle.pages.specs.Entries.{pages_of, entry_view}
use Rattle.pages.proofs.Pages.{pages_long, page_item, free_step, free_end}
use Rattle.pages.proofs.table.Table.free_in_class.Goals as goal
use Rattle.pages.proofs.table.Table.free_in_class.Goals.{then-page-but+then-is_open, else-page-but, else-page-but-via-then-page-but+else-is_open, else-page-but-via-else-page-but}

-- what the page adds
step : (c : goal.Joined-page-but) → (v : ℕ) × (c.if-page-but.n ≡ c.loop-page.n + v) × (v ≤ 64)
    × ((ws : List ℕ) → v ≡ cond (in_class c.args.size (entry_view (get_or c.args.self.now.entries c.loop-page.page c.entry-item.result) ws) && not (eqb c.loop-page.page c.args.but))
    (free (entry_view (get_or c.args.self.now.entries c.loop-page.page c.entry-item.result) ws)) 0)
step c =
    let e : Entry = get_or c.args.self.now.entries c.loop-page.page c.entry-item.result in
    let size : ℕ = c.args.size in
    let other : Bool = not (eqb c.loop-page.page c.args.but) in
    elim c.if-page-but.branch [
      | then-page-but+then-is_open w ↦ (
        w.free-n.result,
        w.n-is,
        w.free-n.ensures.few,
        λ ws. w.free-n.ensures.free ws
            ∙ sym (ap (λ (b : Bool). cond b (free (entry_view e ws)) 0)
            (and_from (in_class size (entry_view e ws)) other (sym (w.is_open.ensures ws) ∙ w.if-is_open.true) (ap not (ne_eqb c.loop-page.page c.args.but w.if-page-but.true)))),
      )
      | else-page-but w ↦ (
        0,
        omega arith,
        omega arith,
        λ ws. sym (ap (λ (b : Bool). cond b (free (entry_view e ws)) 0) (elim w.else-page-but.branch [
          | else-page-but-via-then-page-but+else-is_open w' ↦ and_left (in_class size (entry_view e ws)) other (sym (w'.is_open.ensures ws) ∙ w'.if-is_open.false)
          | else-page-but-via-else-page-but w' ↦ and_right (in_class size (entry_view e ws)) other (ap not (eq-eqb c.loop-page.page c.args.but w'.if-page-but.false))
        ])),
      )
    ]

pub loop-page-preserved : goal.loop-page-preserved
loop-page-preserved c =
    let es = c.args.self.now.entries in
    let g : ℕ = c.loop-page.page in
    let l = c.loop-page-test.true in
    let n : length es ≡ 64 = omega arith in
    let i = step c in
    let v : ℕ = i.0 in
    let more : c.if-page-but.n ≡ c.loop-page.n + v = i.1 in
    let few : v ≤ 64 = i.2 in
    let j = c.loop-page.invariant.1 in (
      λ wss long.
          let k = pages_long es wss (n, long) in
          let s = free_step c.args.size c.args.but (pages_of es wss) g (omega arith) in
          let e : v ≡ cond (in_class c.args.size (page_at (pages_of es wss) g) && not (eqb g c.args.but)) (free (page_at (pages_of es wss) g)) 0 =
          i.3 (get_or wss g []) ∙ ap (λ (p : Page). cond (in_class c.args.size p && not (eqb g c.args.but)) (free p) 0) (sym (page_item es wss (n, long) g c.entry-item.result l)) in
          let i = c.loop-page.invariant.0 wss long in
          omega arith,
      omega arith,
    )

pub returns : goal.returns
returns c wss long =
    let es = c.args.self.now.entries in
    let n : length es ≡ 64 = omega arith in
    let k = pages_long es wss (n, long) in
    let l = c.loop-page-test.false in
    let e = free_end c.args.size c.args.but (pages_of es wss) c.loop-page.page (omega arith) in
    let i = c.loop-page.invariant.0 wss long in
    omega arith
