use Rattle.sg_trace.proofs.Starts.{starts_appended, starts_then, any_error}
use Rattle.sg_trace.proofs.trace.append_services.Goals as goal

pub returns-in_err-append_service-clause-front : goal.returns-in_err-append_service-clause-front
returns-in_err-append_service-clause-front c =
    any_error c.from_residual.result (starts_then _ _ _ c.in_err-append_service.ensures.front (starts_appended _ _ _ c.loop-service.invariant))
