use native.Mathlib.Omega.{arith}
use mathlib.Core.Path.{◌≡◌}
use lib.ListN.{length}
use Rattle.std.proofs.lemmas.Result.{err_from_is_err_and}
use Rattle.parsing.specs.Parser.{verdict_of}
use Rattle.parsing.specs.VerdictLaws.{joined_answers}
use Rattle.runs.proofs.OutputLaws.{check_refused, check_written}
use Rattle.merge.specs.Merged.{merged_of, files_verdict}
use Rattle.merge.proofs.FileLaws.{second_long, size_is, few, files_judged, fitting_room}
use Rattle.merge.proofs.merge_loaded.Goals as goal

pub overflow_add-functions : goal.overflow_add-functions
overflow_add-functions c =
    let kept = c.functions_of.ensures in
    let added = rw (c.table.ensures.value) at c.functions.ensures.count in
    let b = few c.requires.1 c.table.ensures.right kept added in
    omega (arith, b.0, b.1)

pub overflow_sub-size : goal.overflow_sub-size
overflow_sub-size c = rw (c.bytes-others.ensures.value) (second_long c.requires.1 c.bytes-others.ensures.right)

pub put_file-requires-clause-few_functions : goal.put_file-requires-clause-few_functions
put_file-requires-clause-few_functions c =
    let F = c.requires.1 in
    let G = c.bytes-others.ensures.right in
    let q = c.bytes-others.ensures.value in
    let kept = c.functions_of.ensures in
    let added = rw (c.table.ensures.value) at c.functions.ensures.count in
    let room = length c.args.out.now in
    let verdict = rw q at (joined_answers c.version_checked-version.result c.size_checked-room.result c.or_else.result c.version_checked-version.ensures c.size_checked-room.ensures c.or_else.ensures) in
    let judged : verdict_of c.or_else.result ≡ files_verdict c.args.first.now c.args.second.now room = files_judged F G kept added room verdict in
    (fitting_room c.args.first.now c.args.second.now c.args.out.now judged c.in_ok-or_else.was).0

pub put_file-requires-clause-room : goal.put_file-requires-clause-room
put_file-requires-clause-room c =
    let F = c.requires.1 in
    let G = c.bytes-others.ensures.right in
    let q = c.bytes-others.ensures.value in
    let kept = c.functions_of.ensures in
    let added = rw (c.table.ensures.value) at c.functions.ensures.count in
    let room = length c.args.out.now in
    let verdict = rw q at (joined_answers c.version_checked-version.result c.size_checked-room.result c.or_else.result c.version_checked-version.ensures c.size_checked-room.ensures c.or_else.ensures) in
    let judged : verdict_of c.or_else.result ≡ files_verdict c.args.first.now c.args.second.now room = files_judged F G kept added room verdict in
    (fitting_room c.args.first.now c.args.second.now c.args.out.now judged c.in_ok-or_else.was).1

pub returns-in_err-or_else : goal.returns-in_err-or_else
returns-in_err-or_else c =
    let p = err_from_is_err_and c.from_residual.result c.from_residual.ensures.1 in
    let F = c.requires.1 in
    let G = c.bytes-others.ensures.right in
    let q = c.bytes-others.ensures.value in
    let kept = c.functions_of.ensures in
    let added = rw (c.table.ensures.value) at c.functions.ensures.count in
    let room = length c.args.out.now in
    let verdict = rw q at (joined_answers c.version_checked-version.result c.size_checked-room.result c.or_else.result c.version_checked-version.ensures c.size_checked-room.ensures c.or_else.ensures) in
    let judged : verdict_of c.or_else.result ≡ files_verdict c.args.first.now c.args.second.now room = files_judged F G kept added room verdict in
    let A = check_refused (merged_of c.args.first.now c.args.second.now) c.args.out.now judged c.in_err-or_else.was in
    rw (p.1, p.2) (A.answer, A.output)

pub returns : goal.returns
returns c =
    let F = c.requires.1 in
    let G = c.bytes-others.ensures.right in
    let q = c.bytes-others.ensures.value in
    let kept = c.functions_of.ensures in
    let added = rw (c.table.ensures.value) at c.functions.ensures.count in
    let room = length c.args.out.now in
    let verdict = rw q at (joined_answers c.version_checked-version.result c.size_checked-room.result c.or_else.result c.version_checked-version.ensures c.size_checked-room.ensures c.or_else.ensures) in
    let judged : verdict_of c.or_else.result ≡ files_verdict c.args.first.now c.args.second.now room = files_judged F G kept added room verdict in
    let A = check_written (merged_of c.args.first.now c.args.second.now) c.args.out.now judged c.in_ok-or_else.was
    (rw q (size_is F G)) c.put_file.ensures.laid in
    (A.answer, A.output)
