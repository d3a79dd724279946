use Rattle.std.proofs.Common.{◌≡◌, [], ◌∷◌, ◌++◌, length, rules, refl, sym, ap, ◌∙◌, subst}
use Rattle.desk.specs.declared.receipt.Receipt.{Receipt}
use Rattle.desk.specs.Books.{BookView, manifest_of}
use Rattle.desk.specs.Receipts.{entry, next_receipt}
use Rattle.desk.proofs.Booked.{IsMore, manifest_kept, run_kept, receipt_by_run, receipt_in_run}
use Rattle.desk.proofs.book.Book.submit.Goals as goal

abbrev before : goal.After-push_reserved → BookView
before c = record { calls = c.self.inside.calls.items; machine = c.self.inside.spm }

abbrev after : goal.After-push_reserved → BookView
after c = record { calls = c.push_reserved.new.self.items; machine = c.handle.new.self }

more : (c : goal.After-push_reserved) → IsMore (before c) (after c) (entry c.args.seat c.args.call)
more c = record { calls = search rules; state = search rules }

pub invariant_of-self-2 : goal.invariant_of-self-2
invariant_of-self-2 c = run_kept (before c) (after c) (entry c.args.seat c.args.call) (more c) c.self.invariant c.requires

pub returns-clause-in_run : goal.returns-clause-in_run
returns-clause-in_run c =
    let r : Receipt = record { place = c.len.result; caller = c.call.inside.caller; regs = c.call.inside.regs; reply = c.in_ok-reply.reply } in
    let is : r ≡ next_receipt (manifest_of (before c)) (before c).calls c.args.call = search rules in
    receipt_in_run (before c) (after c) (entry c.args.seat c.args.call) r (more c) is

pub returns-clause-manifest : goal.returns-clause-manifest
returns-clause-manifest c =
    manifest_kept (before c) (after c) (entry c.args.seat c.args.call) (more c) ∙ ap manifest_of c.self.view_is

pub returns-clause-run : goal.returns-clause-run
returns-clause-run c = run_kept (before c) (after c) (entry c.args.seat c.args.call) (more c) c.self.invariant c.requires
