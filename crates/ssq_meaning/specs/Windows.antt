-- Windows that a query can have.
pub use Rattle.ssq_shape.specs.Windows.{IsWindow, HasWindow, HasGroupWindows, HasWindows}
