pub mod ShownAtDesk
